use Rattle.std.proofs.Common.{◌≡◌, ◌-◌}
use Rattle.rules.specs.Values.{of_drain, handed_row}
use Rattle.rules.specs.Clear.{drain_times}
use Rattle.clear.proofs.drain_all.Given as goal

-- the steps left, from what the last one left, come to what all of them come to
abbrev pub invariant-loop : goal.invariant-loop
invariant-loop l =
    drain_times (l.end - l.counter) (handed_row of_drain l.last l.links l.rows)
    ≡ drain_times l.initial.end (handed_row of_drain l.initial.last l.initial.links l.initial.rows)
