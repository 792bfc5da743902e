use Rattle.stream.proofs.Turns.{left_of}
use Rattle.stream.specs.Feeding.{feeding, going, fed_once, fed_whole}
use Rattle.stream.specs.Repeats.{while}
use mathlib.Core.Path.{◌≡◌}
use lib.ListN.{length}
use Prim.Native.Nat.{◌+◌}
use Rattle.stream.proofs.feeding.fed_whole.Given as goal

abbrev pub invariant-loop-links : goal.invariant-loop-links
invariant-loop-links l = (length l.links ≡ length l.initial.links) × (length l.rows ≡ length l.initial.rows) × (length l.out ≡ length l.initial.out)
    × (while (going (length l.input)) (fed_once l.input) (length l.input + length l.initial.out) (feeding l.f l.links l.rows l.out) ≡ fed_whole l.input (feeding l.initial.f l.initial.links l.initial.rows l.initial.out))

abbrev pub decreases-loop-links : goal.decreases-loop-links
decreases-loop-links l = left_of (length l.input) (feeding l.f l.links l.rows l.out)
