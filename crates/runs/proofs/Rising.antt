-- The fronts in rising order are each run's front once, and nothing else. Assumes nothing.
use mathlib.Core.Path.{◌≡◌, refl, sym, ap, ◌∙◌}
use mathlib.Core.List.{[], ◌∷◌, ◌++◌}
use mathlib.Core.Bool.{Bool, true, false}
use Prim.Native.Nat.{ℕ, zero, suc, ◌+◌, ◌≤◌, ◌<◌, ◌%◌}
use native.Mathlib.Decide.{ℕ_discrete}
use native.Mathlib.Omega.{arith}
use lib.Dec.{ltb}
use borrow.Author.Tests.{ltb-true, lt-ltb, le-ltb}
use Rattle.rules.specs.Choice.{pick, both, one_if, alike, times}
use Rattle.rules.specs.Words.{vacant_by}
use Rattle.rules.specs.Runs.{Front, Run, is_front}
use Rattle.rules.proofs.Choice.{by_test, both_true}
use Rattle.rules.proofs.SlotTests.{vacant_yes}
use Rattle.rules.proofs.Below.{one_most}
use Rattle.runs.specs.Rising.{fronts_below, rising}
use Rattle.runs.proofs.Points.{alike_same, alike_other, below_next}
use Rattle.runs.proofs.Times.{times_append}
use Rattle.runs.proofs.Runs.{par}
use Rattle.runs.proofs.RunTests.{no_choice, front_later, front_yes, front_is}
use Rattle.runs.proofs.Fronts.{Fronts, same_times}

then_true : (t : Bool) → 1 ≤ one_if t → t ≡ true
then_true true h = refl
then_true false h = absurd (omega arith)

module _ (v : ℕ → ℕ) (u : ℕ) where
  -- slot k is on the list: a front, and not slot 0
  listed : ℕ → Bool
  listed k = both (is_front v u k) (ltb 0 k)

  -- slot by slot
  pub rising_none : fronts_below v u 0 ≡ []
  unfolding fronts_below
  rising_none = refl

  pub rising_zero : fronts_below v u 1 ≡ []
  unfolding fronts_below
  rising_zero = simp (no_choice (is_front v u 0) false)

  pub rising_on : (k : ℕ) → Front v u (suc k) → fronts_below v u (suc (suc k)) ≡ fronts_below v u (suc k) ++ suc k ∷ []
  unfolding fronts_below
  rising_on k f = simp (lt-ltb 0 (suc k) (omega arith), front_yes v u (suc k) f)

  pub rising_past : (k : ℕ) → is_front v u k ≡ false → fronts_below v u (suc k) ≡ fronts_below v u k
  unfolding fronts_below
  rising_past k e = simp e

  -- how often x is on the list of those below k
  times_rising : (x k : ℕ) → times x (fronts_below v u k) ≡ one_if (both (ltb x k) (listed x))
  unfolding fronts_below listed
  times_rising x zero = simp (le-ltb x 0 (omega arith))
  times_rising x (suc k) = go (ℕ_discrete x k) (times_rising x k)
    where
      more : times x (fronts_below v u (suc k)) ≡ times x (fronts_below v u k) + pick (listed k) (alike x k) 0
      more =
          by_test (λ (t : Bool). times x (pick t (fronts_below v u k ++ k ∷ []) (fronts_below v u k)) ≡ times x (fronts_below v u k) + pick t (alike x k) 0) (listed k)
          (λ _. times_append x (fronts_below v u k) (k ∷ []) ∙ omega arith)
          (λ _. omega arith)

      go : Dec (x ≡ k) → times x (fronts_below v u k) ≡ one_if (both (ltb x k) (listed x)) →
          times x (fronts_below v u (suc k)) ≡ one_if (both (ltb x (suc k)) (listed x))
      go (yes e) ih =
          more
          ∙ simp (ih, le-ltb x k (omega arith), lt-ltb x (suc k) (omega arith), alike_same x k e)
          (omega (arith, ap (λ (y : ℕ). one_if (listed y)) e))
      go (no n) ih = more ∙ simp (ih, alike_other x k n, below_next x k n) (omega (arith, no_choice {A = ℕ} (listed k) 0))

  -- so each front below k but slot 0 is on it, and nothing else
  pub rising_has : (x k : ℕ) → 0 < x → x < k → Front v u x → times x (fronts_below v u k) ≡ 1
  unfolding listed
  rising_has x k p h f = times_rising x k ∙ simp (lt-ltb x k h, front_yes v u x f, lt-ltb 0 x p)

  pub rising_only : (x k : ℕ) → 1 ≤ times x (fronts_below v u k) → (0 < x) × (x < k) × Front v u x
  unfolding listed
  rising_only x k h =
      let a = both_true (ltb x k) (listed x) (then_true (both (ltb x k) (listed x)) (omega (arith, times_rising x k))) in
      let b = both_true (is_front v u x) (ltb 0 x) a.1 in
      (ltb-true 0 x b.1, ltb-true x k a.0, front_is v u x b.0)

  risen_no_zero : (k : ℕ) → times 0 (fronts_below v u k) ≡ 0
  unfolding listed
  risen_no_zero k = times_rising 0 k ∙ simp (no_choice (is_front v u 0) false, no_choice (ltb 0 k) false)

  -- with slot 0 ahead of them
  pub rising_once : (k x : ℕ) → times x (0 ∷ fronts_below v u k) ≤ 1
  rising_once k x = go (ℕ_discrete x 0)
    where
      go : Dec (x ≡ 0) → times x (0 ∷ fronts_below v u k) ≤ 1
      go (yes e) = omega (arith, alike_same x 0 e, same_times x 0 (fronts_below v u k) e, risen_no_zero k)
      go (no n) = omega (arith, alike_other x 0 n, times_rising x k, one_most (both (ltb x k) (listed x)))

  pub rising_below : (k x : ℕ) → 0 < k → 1 ≤ times x (0 ∷ fronts_below v u k) → x < k
  rising_below k x p h = go (ℕ_discrete x 0)
    where
      go : Dec (x ≡ 0) → x < k
      go (yes e) = omega arith
      go (no n) = (rising_only x k (omega (arith, alike_other x 0 n))).1

  -- a run adds its front alone
  pub rising_run : (f b : ℕ) → Run v u f b → (k : ℕ) → f ≤ k → k ≤ b → fronts_below v u (suc k) ≡ fronts_below v u (suc f)
  rising_run f b r zero p q = ap (λ (x : ℕ). fronts_below v u (suc x)) (omega arith)
  rising_run f b r (suc k) p q = go (ℕ_discrete f (suc k)) (rising_run f b r k)
    where
      go : Dec (f ≡ suc k) → (f ≤ k → k ≤ b → fronts_below v u (suc k) ≡ fronts_below v u (suc f)) → fronts_below v u (suc (suc k)) ≡ fronts_below v u (suc f)
      go (yes e) ih = ap (λ (x : ℕ). fronts_below v u (suc x)) (sym e)
      go (no n) ih =
          let vacant = vacant_yes v u k (omega (arith, r.below)) (r.vacant k (omega arith) (omega arith)) in
          rising_past (suc k) (simp (front_later v u k, vacant) (no_choice (vacant_by v u (suc k)) false)) ∙ ih (omega arith) (omega arith)

  pub rising_fronts : 0 < u → v 0 % 2 ≡ 0 → Fronts v u (rising v u)
  rising_fronts p z = record {
    zero_even = z;
    positive = p;
    every = λ k f. every k f (ℕ_discrete k 0);
    only = λ k h. only k h (ℕ_discrete k 0);
  }
    where
      every : (k : ℕ) → Front v u k → Dec (k ≡ 0) → times k (0 ∷ rising v u) ≡ 1
      every k f (yes e) = omega (arith, alike_same k 0 e, same_times k 0 (rising v u) e, risen_no_zero u)
      every k f (no n) = omega (arith, alike_other k 0 n, rising_has k u (omega arith) f.below f)

      only : (k : ℕ) → 1 ≤ times k (0 ∷ rising v u) → Dec (k ≡ 0) → Front v u k
      only k h (yes e) = record { below = omega arith; vacant = par v k 0 e ∙ z; starts = λ j t. absurd (omega arith) }
      only k h (no n) = (rising_only k u (omega (arith, alike_other k 0 n))).2
