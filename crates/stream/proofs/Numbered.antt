-- What a piece hands back, by its number. Assumes nothing.
use Prim.Native.Nat.{ℕ}
use mathlib.Core.List.{List}
use mathlib.Core.Path.{◌≡◌, sym, ap, ◌∙◌}
use lib.Dec.{eqb}
use borrow.Author.Tests.{ne_eqb}
use Rattle.std.specs.Prelude.{Result, Ok, Err, IsErrAnd}
use Rattle.rules.specs.Choice.{pick}
use Rattle.rules.specs.Refusals.{number_of}
use Rattle.rules.specs.declared.Refusal.{Refusal}
use Rattle.rules.proofs.Chain.{some_number}
use Rattle.commands.specs.Turns.{run_of}
use Rattle.commands.specs.declared.Stream.{Stream}
use Rattle.stream.specs.declared.Fed.{Fed}
use Rattle.stream.specs.Feeding.{Piece, fed, refused_piece}

module _ (l r : List ℕ) (s : Stream) (out : List ℕ) (p : Piece) (m : ℕ) where
  turned_down_by : (e : Refusal) → number_of e ≡ m → fed s (Err e) l r out ≡ pick (eqb m 0) p (refused_piece m (run_of l r s) out)
  turned_down_by e same = simp (sym same, ne_eqb (number_of e) 0 (some_number e))

  -- what a `?` passes on is the refusal that it met
  pub turned_down : (x : Result Fed Refusal) (e : Refusal) → IsErrAnd x (λ y. y ≡ e) → number_of e ≡ m →
      fed s x l r out ≡ pick (eqb m 0) p (refused_piece m (run_of l r s) out)
  turned_down (Ok x) e h same = absurd h
  turned_down (Err y) e h same = turned_down_by y (ap number_of h ∙ same)

  pub taken_in : 0 ≡ m → (q : Piece) → q ≡ p → q ≡ pick (eqb m 0) p (refused_piece m (run_of l r s) out)
  taken_in same q e = simp (sym same) e

-- what the code of a piece needs
pub ruleset pieces = (turned_down, taken_in)
