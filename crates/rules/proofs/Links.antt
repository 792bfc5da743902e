-- What the tests of links tell where they passed, for each call that writes: document 01, "Links that are followed".
-- Assumes nothing.
use Prim.Native.Nat.{ℕ, ◌-◌, ◌%◌, ◌≤◌, ◌<◌}
use mathlib.Core.List.{List}
use mathlib.Core.Bool.{true, false, not}
use mathlib.Core.Path.{◌≡◌, ap}
use native.Mathlib.Omega.{arith}
use lib.ListN.{length}
use borrow.Author.Tests.{eqb-true, eqb-false, ltb-true, ltb-false, not-false, eq-eqb, ne_eqb}
use Rattle.rules.specs.Choice.{both}
use Rattle.rules.specs.Words.{row_words, lent_of, version_at, next_at, prev_at, other_end_at, vacant_at, occupied_at}
use Rattle.rules.specs.Refusals.{astray}
use Rattle.rules.specs.Insert.{last_slot, run_number, take_number, insert_number}
use Rattle.rules.specs.Remove.{apart_number, left_number, right_number, remove_number, slot_number}
use Rattle.rules.specs.declared.Header.{Header}
use Rattle.rules.specs.declared.steps.InsertLinks.{InsertLinks}
use Rattle.rules.specs.declared.steps.Beside.{Beside}
use Rattle.rules.proofs.Choice.{both_false}
use Rattle.rules.proofs.SlotTests.{vacant_yes, vacant_no, vacant_is, occupied_no, occupied_is, occupied_not}
use Rattle.rules.proofs.Refusals.{passed}
use Rattle.rules.proofs.Shape.{Shaped, side_entered}

-- a slot that a test found vacant; one that it found occupied
pub record Vacant (l : List ℕ) (used i : ℕ) : Type 0 where
  pub test : vacant_at l used i ≡ true
  pub below : i < used
  pub even : version_at l used i % 2 ≡ 0

pub record Occupied (l : List ℕ) (used i : ℕ) : Type 0 where
  pub test : occupied_at l used i ≡ true
  pub below : i < used
  pub odd : version_at l used i % 2 ≡ 1

pub vacant : (l : List ℕ) (used i : ℕ) → vacant_at l used i ≡ true → Vacant l used i
unfolding vacant_at
vacant l used i e =
    let f = vacant_is (version_at l used) used i e in
    record { test = e; below = f.0; even = f.1 }

pub occupied : (l : List ℕ) (used i : ℕ) → occupied_at l used i ≡ true → Occupied l used i
unfolding occupied_at
occupied l used i e =
    let f = occupied_is (version_at l used) used i e in
    record { test = e; below = f.0; odd = f.1 }

-- a slot in use is one of the two, and one from used upward is neither
pub else_vacant : (l : List ℕ) (used i : ℕ) → i < used → occupied_at l used i ≡ false → Vacant l used i
unfolding vacant_at occupied_at
else_vacant l used i h e =
    let even = occupied_not (version_at l used) used i e h in
    record { test = vacant_yes (version_at l used) used i h even; below = h; even = even }

pub not_vacant : (l : List ℕ) (used i : ℕ) → Occupied l used i → vacant_at l used i ≡ false
unfolding vacant_at
not_vacant l used i o = vacant_no (version_at l used) used i (λ _. o.odd)

pub not_occupied : (l : List ℕ) (used i : ℕ) → Vacant l used i → occupied_at l used i ≡ false
unfolding occupied_at
not_occupied l used i v = occupied_no (version_at l used) used i (λ _. v.even)

pub past_used : (l : List ℕ) (used i : ℕ) → used ≤ i → (vacant_at l used i ≡ false) × (occupied_at l used i ≡ false)
unfolding vacant_at occupied_at
past_used l used i h =
    (vacant_no (version_at l used) used i (λ q. absurd (omega arith)), occupied_no (version_at l used) used i (λ q. absurd (omega arith)))

pub below_occupied : (l : List ℕ) (used i : ℕ) → occupied_at l used i ≡ true → i < used
below_occupied l used i e = (occupied l used i e).below

pub below_vacant : (l : List ℕ) (used i : ℕ) → vacant_at l used i ≡ true → i < used
below_vacant l used i e = (vacant l used i e).below

pub vacant_else : (l : List ℕ) (used i : ℕ) → i < used → occupied_at l used i ≡ false → vacant_at l used i ≡ true
vacant_else l used i h e = (else_vacant l used i h e).test

-- what code knows of a slot that it has tested
pub ruleset in_use = (below_occupied, below_vacant, vacant_else)

-- a link that did not go astray
pub followed : (l : List ℕ) (used i : ℕ) → astray l used i ≡ false → Vacant l used i
followed l used i e = vacant l used i (not-false _ e)

pub vacant_below_lem : (l : List ℕ) (used i : ℕ) → Vacant l used i → i < used
vacant_below_lem l used i v = v.below

-- insert: the run from h to b
pub record RunPassed (l : List ℕ) (hd : Header) (x : InsertLinks) : Type 0 where
  pub front : Vacant l hd.used x.h
  pub back : Vacant l hd.used x.b
  pub ordered : x.h ≤ x.b
  pub returns : other_end_at l hd.used x.b ≡ x.h
  pub room : (x.b ≡ 0 → ⊥) → hd.live < hd.used - 1

pub run_passed : (n : ℕ) (l : List ℕ) (hd : Header) (x : InsertLinks) → run_number n l hd x ≡ 0 → (n ≡ 0) × RunPassed l hd x
unfolding run_number
run_passed n l hd x e =
    let e₅ = passed _ _ _ (omega arith) e in
    let e₄ = passed _ _ _ (omega arith) e₅.0 in
    let e₃ = passed _ _ _ (omega arith) e₄.0 in
    let e₂ = passed _ _ _ (omega arith) e₃.0 in
    let e₁ = passed _ _ _ (omega arith) e₂.0 in (
      e₁.0,
      record {
        front = followed l hd.used x.h e₁.1;
        back = followed l hd.used x.b e₂.1;
        ordered = ltb-false _ _ e₃.1;
        returns = eqb-true _ _ (not-false _ e₄.1);
        room = λ h. ltb-true _ _ (not-false _ (both_false _ _ e₅.1 (ap not (ne_eqb _ _ h))));
      },
    )

-- and what a case asks besides: n where h = b, not 0; slot b − 1 where h is not b; a slot to grow into where b = 0
pub record TakePassed (l : List ℕ) (hd : Header) (x : InsertLinks) : Type 0 where
  pub next : x.h ≡ x.b → (x.b ≡ 0 → ⊥) → Vacant l hd.used x.n
  pub apart : x.h ≡ x.b → (x.b ≡ 0 → ⊥) → x.n ≡ x.h → ⊥
  pub before : (x.h ≡ x.b → ⊥) → Vacant l hd.used (x.b - 1)
  pub grows : x.b ≡ 0 → hd.used ≡ lent_of l → ⊥

pub take_passed : (n : ℕ) (l : List ℕ) (hd : Header) (x : InsertLinks) → take_number n l hd x ≡ 0 → (n ≡ 0) × TakePassed l hd x
unfolding take_number
take_passed n l hd x e =
    let e₄ = passed _ _ _ (omega arith) e in
    let e₃ = passed _ _ _ (omega arith) e₄.0 in
    let e₂ = passed _ _ _ (omega arith) e₃.0 in
    let e₁ = passed _ _ _ (omega arith) e₂.0 in
    let only : x.h ≡ x.b → (x.b ≡ 0 → ⊥) → last_slot x ≡ true = λ h b. simp (eq-eqb _ _ h, ne_eqb _ _ b) in (
      e₁.0,
      record {
        next = λ h b. followed l hd.used x.n (both_false _ _ e₁.1 (only h b));
        apart = λ h b. eqb-false _ _ (both_false _ _ e₂.1 (only h b));
        before = λ h. followed l hd.used (x.b - 1) (both_false _ _ e₃.1 (ap not (ne_eqb _ _ h)));
        grows = λ b. eqb-false _ _ (both_false _ _ e₄.1 (eq-eqb _ _ b));
      },
    )

pub record InsertPassed (l r : List ℕ) (hd : Header) (side : List ℕ) (x : InsertLinks) : Type 0 where
  pub shaped : Shaped l r hd
  pub side_row : length side ≡ row_words
  pub run : RunPassed l hd x
  pub take : TakePassed l hd x

pub insert_passed : (l r : List ℕ) (hd : Header) (side : List ℕ) (x : InsertLinks) → insert_number l r hd side x ≡ 0 →
    InsertPassed l r hd side x
unfolding insert_number
insert_passed l r hd side x e =
    let take = take_passed _ l hd x e in
    let run = run_passed _ l hd x take.0 in
    let entry = side_entered l r hd (length side) row_words run.0 in
    record { shaped = entry.0; side_row = entry.1; run = run.1; take = take.1 }

-- remove: t where neither neighbour is vacant; f where the left one is; n, p and e where the right one is
pub record RemovePassed (l : List ℕ) (hd : Header) (x : Beside) : Type 0 where
  pub some : 1 ≤ hd.live
  pub last : x.before ≡ false → x.after ≡ false → Vacant l hd.used (prev_at l hd.used 0)
  pub front : x.before ≡ true → Vacant l hd.used (other_end_at l hd.used x.left)
  pub front_ordered : x.before ≡ true → other_end_at l hd.used x.left ≤ x.left
  pub next : x.after ≡ true → Vacant l hd.used (next_at l hd.used x.right)
  pub prev : x.after ≡ true → Vacant l hd.used (prev_at l hd.used x.right)
  pub back : x.after ≡ true → Vacant l hd.used (other_end_at l hd.used x.right)
  pub back_ordered : x.after ≡ true → x.right ≤ other_end_at l hd.used x.right

pub remove_passed : (l : List ℕ) (hd : Header) (x : Beside) → remove_number l hd x ≡ 0 → RemovePassed l hd x
unfolding apart_number left_number right_number remove_number
remove_passed l hd x e =
    let e₈ = passed _ _ _ (omega arith) e in
    let e₇ = passed _ _ _ (omega arith) e₈.0 in
    let e₆ = passed _ _ _ (omega arith) e₇.0 in
    let e₅ = passed _ _ _ (omega arith) e₆.0 in
    let e₄ = passed _ _ _ (omega arith) e₅.0 in
    let e₃ = passed _ _ _ (omega arith) e₄.0 in
    let e₂ = passed _ _ _ (omega arith) e₃.0 in
    let e₁ = passed _ _ _ (omega arith) e₂.0 in
    let one : hd.live ≡ 0 → ⊥ = eqb-false _ _ e₁.1 in
    let neither : x.before ≡ false → x.after ≡ false → both (not x.before) (not x.after) ≡ true = λ b a. simp (b, a) in
    record {
      some = omega (arith, one);
      last = λ b a. followed l hd.used _ (both_false _ _ e₂.1 (neither b a));
      front = λ b. followed l hd.used _ (both_false _ _ e₃.1 b);
      front_ordered = λ b. ltb-false _ _ (both_false _ _ e₄.1 b);
      next = λ a. followed l hd.used _ (both_false _ _ e₅.1 a);
      prev = λ a. followed l hd.used _ (both_false _ _ e₆.1 a);
      back = λ a. followed l hd.used _ (both_false _ _ e₇.1 a);
      back_ordered = λ a. ltb-false _ _ (both_false _ _ e₈.1 a);
    }

-- the removal of slot q
pub slot_passed : (l : List ℕ) (hd : Header) (q : ℕ) → slot_number l hd q ≡ 0 → Occupied l hd.used q
unfolding slot_number
slot_passed l hd q e = occupied l hd.used q (not-false _ (passed _ _ _ (omega arith) e).1)
