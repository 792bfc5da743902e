-- Counting below a bound, one number at a time; how many of the first slots are occupied. Assumes nothing.
use mathlib.Core.Bool.{Bool}
use mathlib.Core.Path.{◌≡◌, refl, sym, ap}
use mathlib.Core.Logic.{◌≢◌}
use Prim.Native.Nat.{ℕ, zero, suc, ◌+◌, ◌≤◌, ◌<◌, ◌%◌}
use native.Mathlib.Decide.{ℕ_discrete}
use native.Mathlib.Omega.{arith}
use borrow.Author.Tests.{eq-eqb, ne_eqb}
use Rattle.rules.specs.Choice.{one_if, count_below}
use Rattle.rules.specs.Words.{is_odd, rise}
use Rattle.rules.specs.Runs.{odd_count}

pub count_more : (t : ℕ → Bool) (n : ℕ) → count_below (suc n) t ≡ count_below n t + one_if (t n)
unfolding count_below
count_more t n = refl

pub count_none_yet : (t : ℕ → Bool) → count_below 0 t ≡ 0
unfolding count_below
count_none_yet t = refl

-- an odd version rises to an even one
pub rise_even : (x : ℕ) → x % 2 ≡ 1 → rise x % 2 ≡ 0
rise_even x h = omega arith

odd_bit : (x : ℕ) → one_if (is_odd x) ≡ x % 2
odd_bit x = go (ℕ_discrete (x % 2) 1)
  where
    go : Dec (x % 2 ≡ 1) → one_if (is_odd x) ≡ x % 2
    go (yes e) = simp (eq-eqb (x % 2) 1 e) (sym e)
    go (no n) = simp (ne_eqb (x % 2) 1 n) (omega arith)

pub odd_more : (v : ℕ → ℕ) (n : ℕ) → odd_count v (suc n) ≡ odd_count v n + v n % 2
odd_more v n = omega (arith, count_more (λ i. is_odd (v i)) n, odd_bit (v n))

pub odd_none_yet : (v : ℕ → ℕ) → odd_count v 0 ≡ 0
odd_none_yet v = count_none_yet (λ i. is_odd (v i))

pub odd_most : (v : ℕ → ℕ) (n : ℕ) → odd_count v n ≤ n
odd_most v zero = omega (arith, odd_none_yet v)
odd_most v (suc n) = omega (arith, odd_more v n, odd_most v n)

pub odd_same : (v v' : ℕ → ℕ) (n : ℕ) → ((k : ℕ) → k < n → v' k ≡ v k) → odd_count v' n ≡ odd_count v n
odd_same v v' zero h = omega (arith, odd_none_yet v, odd_none_yet v')
odd_same v v' (suc n) h =
    omega (arith, odd_more v n, odd_more v' n, odd_same v v' n (λ k q. h k (omega arith)), ap (λ (x : ℕ). x % 2) (h n (omega arith)))

-- one slot changes
pub odd_change : (v v' : ℕ → ℕ) (n i : ℕ) → i < n → ((k : ℕ) → k ≢ i → v' k ≡ v k) → odd_count v' n + v i % 2 ≡ odd_count v n + v' i % 2
odd_change v v' zero i l h = absurd (omega arith)
odd_change v v' (suc n) i l h = go (ℕ_discrete i n) (odd_change v v' n i)
  where
    go : Dec (i ≡ n) → (i < n → ((k : ℕ) → k ≢ i → v' k ≡ v k) → odd_count v' n + v i % 2 ≡ odd_count v n + v' i % 2)
        → odd_count v' (suc n) + v i % 2 ≡ odd_count v (suc n) + v' i % 2
    go (yes e) r = omega
        (arith, odd_more v n, odd_more v' n, odd_same v v' n (λ k q. h k (λ t. omega arith)), ap (λ (x : ℕ). v x % 2) e, ap (λ (x : ℕ). v' x % 2) e)
    go (no m) r = omega (arith, odd_more v n, odd_more v' n, r (omega arith) h, ap (λ (x : ℕ). x % 2) (h n (λ t. m (sym t))))

-- a vacant slot does not count; nor do two
pub odd_but_one : (v : ℕ → ℕ) (n i : ℕ) → i < n → v i % 2 ≡ 0 → suc (odd_count v n) ≤ n
odd_but_one v zero i l h = absurd (omega arith)
odd_but_one v (suc n) i l h = go (ℕ_discrete i n) (odd_but_one v n i)
  where
    go : Dec (i ≡ n) → (i < n → v i % 2 ≡ 0 → suc (odd_count v n) ≤ n) → suc (odd_count v (suc n)) ≤ suc n
    go (yes e) r = omega (arith, odd_more v n, odd_most v n, ap (λ (x : ℕ). v x % 2) e)
    go (no m) r = omega (arith, odd_more v n, r (omega arith) h)

pub odd_but_two : (v : ℕ → ℕ) (n i j : ℕ) → i < j → j < n → v i % 2 ≡ 0 → v j % 2 ≡ 0 → suc (suc (odd_count v n)) ≤ n
odd_but_two v zero i j o l g h = absurd (omega arith)
odd_but_two v (suc n) i j o l g h = go (ℕ_discrete j n) (odd_but_two v n i j)
  where
    go : Dec (j ≡ n) → (i < j → j < n → v i % 2 ≡ 0 → v j % 2 ≡ 0 → suc (suc (odd_count v n)) ≤ n) → suc (suc (odd_count v (suc n))) ≤ suc n
    go (yes e) r = omega (arith, odd_more v n, odd_but_one v n i (omega arith) g, ap (λ (x : ℕ). v x % 2) e)
    go (no m) r = omega (arith, odd_more v n, r o (omega arith) g h)

-- where nothing but slot 0 is vacant all the others count
pub odd_but_zero : (v : ℕ → ℕ) (n : ℕ) → 0 < n → v 0 % 2 ≡ 0 → ((k : ℕ) → 0 < k → k < n → v k % 2 ≡ 1) → odd_count v n + 1 ≡ n
odd_but_zero v zero p z h = absurd (omega arith)
odd_but_zero v (suc n) p z h = go (ℕ_discrete n 0) (odd_but_zero v n)
  where
    go : Dec (n ≡ 0) → (0 < n → v 0 % 2 ≡ 0 → ((k : ℕ) → 0 < k → k < n → v k % 2 ≡ 1) → odd_count v n + 1 ≡ n) → odd_count v (suc n) + 1 ≡ suc n
    go (yes e) r = omega (arith, odd_more v n, odd_none_yet v, ap (odd_count v) e, ap (λ (x : ℕ). v x % 2) e)
    go (no m) r = omega (arith, odd_more v n, h n (omega arith) (omega arith), r (omega arith) z (λ k a b. h k a (omega arith)))

-- an occupied slot counts
pub odd_some : (v : ℕ → ℕ) (n i : ℕ) → i < n → v i % 2 ≡ 1 → 1 ≤ odd_count v n
odd_some v zero i l h = absurd (omega arith)
odd_some v (suc n) i l h = go (ℕ_discrete i n) (odd_some v n i)
  where
    go : Dec (i ≡ n) → (i < n → v i % 2 ≡ 1 → 1 ≤ odd_count v n) → 1 ≤ odd_count v (suc n)
    go (yes e) r = omega (arith, odd_more v n, ap (λ (x : ℕ). v x % 2) e)
    go (no m) r = omega (arith, odd_more v n, r (omega arith) h)

pub odd_none : (v : ℕ → ℕ) (n : ℕ) → ((k : ℕ) → k < n → v k % 2 ≡ 0) → odd_count v n ≡ 0
odd_none v zero h = odd_none_yet v
odd_none v (suc n) h = omega (arith, odd_more v n, h n (omega arith), odd_none v n (λ k q. h k (omega arith)))

-- further up no fewer are counted
pub odd_rises : (v : ℕ → ℕ) (k n : ℕ) → k ≤ n → odd_count v k ≤ odd_count v n
odd_rises v k zero h = let f : k ≡ 0 = omega arith in omega (arith, ap (odd_count v) f)
odd_rises v k (suc n) h = go (ℕ_discrete k (suc n)) (odd_rises v k n)
  where
    go : Dec (k ≡ suc n) → (k ≤ n → odd_count v k ≤ odd_count v n) → odd_count v k ≤ odd_count v (suc n)
    go (yes e) r = omega (arith, ap (odd_count v) e)
    go (no m) r = omega (arith, odd_more v n, r (omega arith))
