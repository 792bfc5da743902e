-- No two different outcomes meet the promise of a piece: what is handed back, both tables and the output are settled by it. Assumes nothing.
use Prim.Native.Nat.{ℕ}
use mathlib.Core.List.{List}
use mathlib.Core.Path.{◌≡◌, refl, sym, ap, ◌∙◌}
use Rattle.std.specs.Prelude.{Result, Ok, Err, ⊤}
use Rattle.rules.specs.declared.Refusal.{Refusal}
use Rattle.rules.proofs.Settled.{tests_of, tests_back}
use Rattle.commands.specs.declared.Stream.{Stream}
use Rattle.commands.specs.Turns.{Run}
use Rattle.stream.specs.Feeding.{Piece, fed, feed_rule, finish_rule}
use Rattle.stream.specs.declared.Fed.{Fed}

abbrev OnePiece : Stream → Piece → Type 0
OnePiece t p =
    (x y : Result Fed Refusal) (l m r s o q : List ℕ) → fed t x l r o ≡ p → fed t y m s q ≡ p → (x ≡ y) × (l ≡ m) × (r ≡ s) × (o ≡ q)

-- what is handed back can be read off the piece
abbrev answer_with : Result ⊤ Refusal → Piece → Result Fed Refusal
answer_with (Ok _) p = Ok (record { taken = p.taken; written = p.written; waits = p.waits; stream = p.run.stream })
answer_with (Err e) p = Err e

abbrev answer_of : Piece → Result Fed Refusal
answer_of p = answer_with (tests_of p.number) p

answer_back : (t : Stream) (x : Result Fed Refusal) (l r o : List ℕ) → answer_of (fed t x l r o) ≡ x
answer_back t (Ok x) l r o = refl
answer_back t (Err e) l r o = ap (λ (a : Result ⊤ Refusal). answer_with a (fed t (Err e) l r o)) (tests_back (Err e))

around_back : (t : Stream) (x : Result Fed Refusal) (l r o : List ℕ) → let p = fed t x l r o in (p.run.links ≡ l) × (p.run.rows ≡ r) × (p.out ≡ o)
around_back t (Ok x) l r o = (refl, refl, refl)
around_back t (Err e) l r o = (refl, refl, refl)

one_piece : (t : Stream) (p : Piece) → OnePiece t p
one_piece t p x y l m r s o q e f =
    let g = e ∙ sym f in
    let a = around_back t x l r o in
    let b = around_back t y m s q in (
      sym (answer_back t x l r o) ∙ ap answer_of g ∙ answer_back t y m s q,
      sym a.0 ∙ ap (λ (w : Piece). w.run.links) g ∙ b.0,
      sym a.1 ∙ ap (λ (w : Piece). w.run.rows) g ∙ b.1,
      sym a.2 ∙ ap (λ (w : Piece). w.out) g ∙ b.2,
    )

pub feed_settled : (s : Run) (input out : List ℕ) → OnePiece s.stream (feed_rule s input out)
feed_settled s input out = one_piece s.stream (feed_rule s input out)

pub finish_settled : (s : Run) (out : List ℕ) → OnePiece s.stream (finish_rule s out)
finish_settled s out = one_piece s.stream (finish_rule s out)
