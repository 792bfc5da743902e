-- What pieces lead to: nowhere else without one, one more, and one after the other. A refused feed leaves the run as it was. Assumes nothing.
use Prim.Native.Nat.{ℕ}
use mathlib.Core.List.{List, []}
use mathlib.Core.Bool.{Bool}
use mathlib.Core.Path.{◌≡◌, refl, sym, subst}
use lib.ListN.{length}
use lib.Dec.{eqb}
use Rattle.rules.proofs.Choice.{by_test}
use Rattle.commands.specs.Turns.{Run}
use Rattle.stream.specs.Feeding.{feed_number, feed_rule}
use Rattle.course.specs.Pieces.{Pieces, none, more, Reached}

pub reached_still : (s : Run) → Reached s s
reached_still s = ([], ([], none))

after_pieces : {s s' s'' : Run} {taken written : List ℕ} → Pieces s taken written s' → Reached s' s'' → Reached s s''
after_pieces none h = h
after_pieces (more input out e ps) h =
    let g = after_pieces ps h in
    (_, (_, more input out e g.1.1))

pub reached_after : {s s' s'' : Run} → Reached s s' → Reached s' s'' → Reached s s''
reached_after h g = after_pieces h.1.1 g

pub reached_on : (s : Run) (input out : List ℕ) → Reached s (feed_rule s input out).run
unfolding feed_rule
reached_on s input out =
    let n = feed_number s.links s.rows s.stream (length out) in
    by_test (λ (t : Bool). eqb n 0 ≡ t → Reached s (feed_rule s input out).run) (eqb n 0)
    (λ z _.
    let fed : (feed_rule s input out).number ≡ 0 = rw z refl in
    (_, (_, more input out fed none)))
    (λ z _.
    let same : (feed_rule s input out).run ≡ s = rw z refl in
    subst (Reached s) (sym same) (reached_still s))
    refl
