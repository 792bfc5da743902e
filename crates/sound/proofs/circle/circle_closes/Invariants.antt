use Rattle.std.proofs.Common.{◌≡◌, ◌-◌}
use Rattle.rules.specs.Check.{circle_test}
use Rattle.sound.proofs.circle.circle_closes.Given as goal

-- the test is that of the steps left, from the slot at hand
abbrev pub invariant-loop-step : goal.invariant-loop-step
invariant-loop-step l = circle_test l.links l.used l.steps 0 ≡ circle_test l.links l.used (l.steps - l.step) l.x
