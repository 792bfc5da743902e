-- Testing and counting below a bound, as a loop that rises by one meets them. Assumes nothing.
use Prim.Native.Nat.{ℕ, zero, suc, ◌+◌, ◌≤◌, ◌<◌}
use mathlib.Core.Bool.{Bool, true, false}
use mathlib.Core.Path.{◌≡◌, refl, subst}
use native.Mathlib.Decide.{dec_lt}
use native.Mathlib.Numerals.{add-one}
use native.Mathlib.Omega.{arith}
use Rattle.rules.specs.Choice.{both, either, one_if, all_below, some_below, count_below}
use Rattle.rules.proofs.Choice.{both_if}

-- what holds just past i, and from each number goes on to the next, holds of every number past i
past : (P : ℕ → Type 0) (i : ℕ) → P (suc i) → ((n : ℕ) → P n → P (suc n)) → (n : ℕ) → i < n → P n
past P i first on zero h = absurd (omega arith)
past P i first on (suc n) h = at (dec_lt i n) (λ j. past P i first on n j)
  where
    at : Dec (i < n) → (i < n → P n) → P (suc n)
    at (yes j) before = on n (before j)
    at (no j) before = let last : i ≡ n = omega arith in subst (λ (k : ℕ). P (suc k)) last first

-- all so far, and the next one; what fails of one number below fails of all
pub all_next : (n : ℕ) (t : ℕ → Bool) → all_below (n + 1) t ≡ both (all_below n t) (t n)
unfolding all_below
all_next n t = rw add-one

pub all_missed : (t : ℕ → Bool) (n i : ℕ) → i < n → t i ≡ false → all_below n t ≡ false
unfolding all_below
all_missed t n i h e = past (λ (k : ℕ). all_below k t ≡ false) i (both_if (all_below i t) (t i) (λ _. e)) (λ k so. rw so) n h

either_last : (a b : Bool) → b ≡ true → either a b ≡ true
either_last true b e = refl
either_last false b e = e

-- what holds of one number below holds of some
pub some_found : (t : ℕ → Bool) (n i : ℕ) → i < n → t i ≡ true → some_below n t ≡ true
unfolding some_below
some_found t n i h e = past (λ (k : ℕ). some_below k t ≡ true) i (either_last (some_below i t) (t i) e) (λ k so. rw so) n h

pub one_most : (t : Bool) → one_if t ≤ 1
one_most true = omega arith
one_most false = omega arith

count_most : (n : ℕ) (t : ℕ → Bool) → count_below n t ≤ n
unfolding count_below
count_most zero t = omega arith
count_most (suc n) t = omega (arith, count_most n t, one_most (t n))

-- the count so far, and the next one: no more than there are numbers
pub count_on : (n : ℕ) (t : ℕ → Bool) (k : ℕ) → k ≡ count_below n t → (o : ℕ) → o ≡ one_if (t n) → (k + o ≡ count_below (n + 1) t) × (k + o ≤ n + 1)
unfolding count_below
count_on n t k e o d =
    (rw (add-one, e, d), omega (arith, e, d, count_most n t, one_most (t n)))
