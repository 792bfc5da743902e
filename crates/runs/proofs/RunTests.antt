-- The rules' tests of fronts and backs, and what they tell of runs. Assumes nothing.
use mathlib.Core.Path.{◌≡◌, refl, sym, ◌∙◌}
use mathlib.Core.Bool.{Bool, true, false, not}
use Prim.Native.Nat.{ℕ, zero, suc, ◌-◌, ◌≤◌, ◌<◌}
use native.Mathlib.Decide.{ℕ_discrete}
use native.Mathlib.Numerals.{add-one}
use native.Mathlib.Omega.{arith}
use borrow.Author.Tests.{lt-ltb, not-true}
use Rattle.rules.specs.Choice.{pick, both, all_below}
use Rattle.rules.specs.Words.{vacant_by}
use Rattle.rules.specs.Runs.{Front, Run, past_front, is_front, is_back, front_of}
use Rattle.rules.proofs.Choice.{by_test, both_true}
use Rattle.rules.proofs.SlotTests.{vacant_yes, vacant_no, vacant_is, vacant_not}
use Rattle.runs.proofs.Runs.{par, back_run}

pub is_true : (t : Bool) → (t ≡ false → ⊥) → t ≡ true
is_true t h = by_test (λ (x : Bool). x ≡ true) t (λ _. refl) (λ e. absurd (h e))

pub is_false : (t : Bool) → (t ≡ true → ⊥) → t ≡ false
is_false t h = by_test (λ (x : Bool). x ≡ false) t (λ e. absurd (h e)) (λ _. refl)

-- a test of every number below n
pub test_all : (n : ℕ) (t : ℕ → Bool) → all_below n t ≡ true → (i : ℕ) → i < n → t i ≡ true
unfolding all_below
test_all zero t h i l = absurd (omega arith)
test_all (suc n) t h i l = let w = both_true _ _ h in go (ℕ_discrete i n) w.1 (test_all n t w.0 i)
  where
    go : Dec (i ≡ n) → t n ≡ true → (i < n → t i ≡ true) → t i ≡ true
    go (yes e) last ih = rw e last
    go (no m) last ih = ih (omega arith)

pub all_test : (n : ℕ) (t : ℕ → Bool) → ((i : ℕ) → i < n → t i ≡ true) → all_below n t ≡ true
unfolding all_below
all_test zero t h = refl
all_test (suc n) t h = simp (all_test n t (λ i l. h i (omega arith)), h n (omega arith))

-- a choice between one thing and the same
pub no_choice : {A : Type 0} (t : Bool) (x : A) → pick t x x ≡ x
no_choice true x = refl
no_choice false x = refl

-- what a test says twice it says once
said_once : (a b : Bool) → both a (not (both a b)) ≡ both a (not b)
said_once true b = refl
said_once false b = refl

alone : (a : Bool) → both a (not false) ≡ a
alone true = refl
alone false = refl

module _ (v : ℕ → ℕ) (u : ℕ) where
  -- the tests of a front and of a back, by the slots beside
  pub front_first : is_front v u 0 ≡ vacant_by v u 0
  unfolding is_front past_front
  front_first = said_once (vacant_by v u 0) false ∙ alone (vacant_by v u 0)

  pub front_later : (k : ℕ) → is_front v u (suc k) ≡ both (vacant_by v u (suc k)) (not (vacant_by v u k))
  unfolding is_front past_front
  front_later k =
      let e : suc k - 1 ≡ k = omega arith in
      simp (lt-ltb 0 (suc k) (omega arith), e) (said_once (vacant_by v u (suc k)) (vacant_by v u k))

  pub back_by : (k : ℕ) → is_back v u k ≡ both (vacant_by v u k) (not (vacant_by v u (suc k)))
  unfolding is_back
  back_by k = simp add-one

  -- a front; a slot that is none
  pub front_yes : (k : ℕ) → Front v u k → is_front v u k ≡ true
  front_yes zero f = front_first ∙ vacant_yes v u 0 f.below f.vacant
  front_yes (suc k) f = simp (front_later k, vacant_yes v u (suc k) f.below f.vacant, vacant_no v u k (λ _. f.starts k refl))

  pub front_is : (k : ℕ) → is_front v u k ≡ true → Front v u k
  front_is zero e =
      let w = vacant_is v u 0 (sym front_first ∙ e) in
      record { below = w.0; vacant = w.1; starts = λ j t. absurd (omega arith) }
  front_is (suc k) e =
      let b = both_true (vacant_by v u (suc k)) (not (vacant_by v u k)) (sym (front_later k) ∙ e) in
      let w = vacant_is v u (suc k) b.0 in
      let o = vacant_not v u k (not-true (vacant_by v u k) b.1) (omega arith) in
      record { below = w.0; vacant = w.1; starts = λ j t. omega (arith, par v j k (omega arith)) }

  -- a vacant slot that is not past a front is one
  pub front_by : (k : ℕ) → vacant_by v u k ≡ true → past_front v u k ≡ false → Front v u k
  unfolding is_front
  front_by k e p = front_is k (simp (e, p))

  pub front_no : (k : ℕ) → vacant_by v u k ≡ false → is_front v u k ≡ false
  unfolding is_front
  front_no k e = simp e

  -- a run's back, and the slot after it
  pub back_vacant : {f b : ℕ} → Run v u f b → vacant_by v u b ≡ true
  back_vacant {b = b} r = vacant_yes v u b r.below (r.vacant b r.ordered (omega arith))

  pub back_last : {f b : ℕ} → Run v u f b → vacant_by v u (suc b) ≡ false
  back_last {b = b} r = vacant_no v u (suc b) r.stops

  pub back_yes : {f b : ℕ} → Run v u f b → is_back v u b ≡ true
  back_yes {b = b} r = simp (back_by b, back_vacant r, back_last r)

  -- the front of the run that a slot is in
  pub front_of_run : {f b : ℕ} → Run v u f b → (k : ℕ) → f ≤ k → k ≤ b → front_of v u k ≡ f
  unfolding front_of
  front_of_run r zero p q = omega arith
  front_of_run {f} {b} r (suc k) p q = go (ℕ_discrete f (suc k)) (front_of_run r k)
    where
      go : Dec (f ≡ suc k) → (f ≤ k → k ≤ b → front_of v u k ≡ f) → front_of v u (suc k) ≡ f
      go (yes e) ih = simp (vacant_no v u k (λ _. r.front.starts k (sym e))) (sym e)
      go (no n) ih = simp (vacant_yes v u k (omega (arith, r.below)) (r.vacant k (omega arith) (omega arith))) (ih (omega arith) (omega arith))

  pub back_is : (k : ℕ) → is_back v u k ≡ true → Run v u (front_of v u k) k
  back_is k e =
      let b = both_true (vacant_by v u k) (not (vacant_by v u (suc k))) (sym (back_by k) ∙ e) in
      let w = vacant_is v u k b.0 in
      let r = back_run v u k w.0 w.1 (vacant_not v u (suc k) (not-true (vacant_by v u (suc k)) b.1)) in
      rw (front_of_run r.1 k r.1.ordered (omega arith)) r.1
