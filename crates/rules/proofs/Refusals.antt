-- What a chain of refusals tells where it gave no number; that a number once given stays, and a test that fails gives none.
-- Assumes nothing.
use Prim.Native.Nat.{ℕ, ◌<◌}
use mathlib.Core.Bool.{Bool, false}
use mathlib.Core.Path.{◌≡◌, refl, sym}
use native.Mathlib.Omega.{arith}
use lib.Dec.{eqb}
use borrow.Author.Tests.{ne_eqb, eqb-true, eqb-false}
use Rattle.rules.specs.Choice.{pick}
use Rattle.rules.specs.Refusals.{◌▸◌}
use Rattle.rules.proofs.Choice.{by_test}

-- there was none before, and the last test failed
pub passed : (k : ℕ) (t : Bool) (n : ℕ) → 0 < n → (k ▸ (t, n)) ≡ 0 → (k ≡ 0) × (t ≡ false)
unfolding ◌▸◌
passed k t n p e =
    by_test (λ (b : Bool). pick b (pick t n 0) k ≡ 0 → (k ≡ 0) × (t ≡ false)) (eqb k 0)
    (λ z.
    by_test (λ (u : Bool). pick u n 0 ≡ 0 → (k ≡ 0) × (u ≡ false)) t
    (λ _ f. absurd (omega arith))
    (λ _ _. (eqb-true k 0 z, refl)))
    (λ z f. absurd (eqb-false k 0 z f))
    e

-- a number that there is stays
pub number_stays : (k : ℕ) (t : Bool) (n : ℕ) → (k ≡ 0 → ⊥) → k ▸ (t, n) ≡ k
unfolding ◌▸◌
number_stays k t n h = simp (ne_eqb k 0 h)

-- a test of a chain that does not hold leaves the number
pub skipped : (n : ℕ) (t : Bool) (k : ℕ) → t ≡ false → (n ▸ (t, k)) ≡ n
unfolding ◌▸◌
skipped n t k e =
    simp e (by_test (λ (b : Bool). eqb n 0 ≡ b → pick b 0 n ≡ n) (eqb n 0) (λ z q. sym (eqb-true n 0 z)) (λ _ q. refl) refl)
