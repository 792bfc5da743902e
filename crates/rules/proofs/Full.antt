-- Insert is refused with 5 only where b = 0 and used = lent, whatever words the tables hold. Assumes nothing.
use Prim.Native.Nat.{ℕ}
use mathlib.Core.List.{List}
use mathlib.Core.Bool.{Bool, true}
use mathlib.Core.Path.{◌≡◌, refl, sym, ap, ◌∙◌}
use native.Mathlib.Omega.{arith}
use lib.Dec.{ltb, eqb}
use borrow.Author.Tests.{ltb-true, lt-ltb, eqb-true}
use Rattle.rules.specs.Choice.{pick}
use Rattle.rules.specs.Words.{lent_of, next_at, other_end_at}
use Rattle.rules.specs.Refusals.{◌▸◌, full, lent_number, header_number, shape_number, side_number, zero_number, side_entry_number}
use Rattle.rules.specs.Values.{Kind, gives, ends, refuses, Values, Outcome, refused, unless}
use Rattle.rules.specs.Insert.{insert_links, run_number, take_number, insert_number, take_new, take_slot, insert_step, insert_by, insert_rule}
use Rattle.rules.specs.declared.Header.{Header}
use Rattle.rules.specs.declared.steps.InsertLinks.{InsertLinks}
use Rattle.rules.proofs.Choice.{by_pick, by_test, both_true}

-- a chain whose numbers are all below m gives one below m
below : (m k : ℕ) (t : Bool) (n : ℕ) → ltb k m ≡ true → ltb n m ≡ true → ltb (k ▸ (t, n)) m ≡ true
unfolding ◌▸◌
below m k t n h j =
    by_pick (λ (x : ℕ). ltb x m ≡ true) (eqb k 0) _ _
    (λ _. by_pick (λ (x : ℕ). ltb x m ≡ true) t _ _ (λ _. j) (λ _. lt-ltb 0 m (let b = ltb-true n m j in omega arith)))
    (λ _. h)

-- a number above all those before it was given by the last test
gave : (k : ℕ) (t : Bool) (n : ℕ) → ltb k n ≡ true → (k ▸ (t, n)) ≡ n → t ≡ true
unfolding ◌▸◌
gave k t n h =
    let b = ltb-true k n h in
    by_pick (λ (x : ℕ). x ≡ n → t ≡ true) (eqb k 0) _ _
    (λ _. by_test (λ (u : Bool). pick u n 0 ≡ n → u ≡ true) t (λ _ _. refl) (λ _ e. absurd (omega arith)))
    (λ _ e. absurd (omega arith))

-- the number, for any links; then the answer of the call
full_number : (l r : List ℕ) (hd : Header) (side : List ℕ) (x : InsertLinks) → insert_number l r hd side x ≡ full →
    (x.b ≡ 0) × (hd.used ≡ lent_of l)
unfolding insert_number take_number run_number side_entry_number zero_number side_number shape_number header_number lent_number
full_number l r hd side x e =
    let f = both_true _ _ (gave _ _ full (search below depth 20) e) in
    (eqb-true _ _ f.0, eqb-true _ _ f.1)

-- a step gives a key, and so refuses nothing
abbrev rank : Kind → ℕ
rank gives = 0
rank ends = 1
rank refuses = 2

step_gives : (l r : List ℕ) (hd : Header) (side : List ℕ) (x : InsertLinks) → (insert_step l r hd side x).answer.kind ≡ gives
unfolding insert_step take_new take_slot
step_gives l r hd side x = by_pick (λ (o : Outcome). o.answer.kind ≡ gives) (eqb x.b 0) _ _ (λ _. refl) (λ _. refl)

pub full_only : (l r : List ℕ) (hd : Header) (side : List ℕ) → (insert_rule l r hd side).answer ≡ refused full →
    (other_end_at l hd.used (next_at l hd.used 0) ≡ 0) × (hd.used ≡ lent_of l)
unfolding insert_rule insert_by unless
full_only l r hd side =
    let x = insert_links l hd.used in
    by_pick (λ (o : Outcome). o.answer ≡ refused full → (x.b ≡ 0) × (hd.used ≡ lent_of l)) (eqb (insert_number l r hd side x) 0) _ _
    (λ _ e.
    let f : rank gives ≡ rank refuses = ap rank (sym (step_gives l r hd side x) ∙ ap (λ (v : Values). v.kind) e) in
    absurd (omega arith))
    (λ _ e. full_number l r hd side x (ap (λ (v : Values). v.number) e))
