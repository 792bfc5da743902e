use Rattle.std.proofs.Common.{◌-◌, ◌≤◌, length}
use Rattle.replay.proofs.read_list.Given as goal

abbrev pub invariant-loop-end : goal.invariant-loop-end
invariant-loop-end g l = l.end ≤ length l.list

abbrev pub decreases-loop-end : goal.decreases-loop-end
decreases-loop-end g l = length l.list - l.end
