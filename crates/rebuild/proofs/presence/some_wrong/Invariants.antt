use Rattle.std.proofs.Common.{◌≡◌, false}
use Rattle.rules.specs.Choice.{some_below}
use Rattle.rules.specs.Rebuild.{wrong_byte}
use Rattle.rebuild.proofs.presence.some_wrong.Given as goal

-- no byte so far is wrong
abbrev pub invariant-loop-i : goal.invariant-loop-i
invariant-loop-i l = some_below l.i (wrong_byte l.links l.n l.presence) ≡ false
