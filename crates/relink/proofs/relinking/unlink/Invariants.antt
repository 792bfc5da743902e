use Rattle.std.proofs.Common.{◌≡◌}
use Rattle.rules.specs.Rebuild.{unlinked}
use Rattle.relink.proofs.relinking.unlink.Given as goal

abbrev pub invariant-loop-i : goal.invariant-loop-i
invariant-loop-i l = l.links ≡ unlinked l.i l.initial.links
