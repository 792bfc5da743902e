-- The tests of a slot, by the facts that they stand for. Assumes nothing.
use mathlib.Core.Path.{◌≡◌}
use mathlib.Core.Bool.{true, false}
use Prim.Native.Nat.{ℕ, ◌<◌, ◌%◌}
use native.Mathlib.Omega.{arith}
use lib.Dec.{ltb, eqb}
use borrow.Author.Tests.{eq-eqb, ne_eqb, lt-ltb, eqb-true, eqb-false, ltb-true}
use Rattle.rules.specs.Words.{is_odd, is_even, vacant_by, occupied_by}
use Rattle.rules.proofs.Choice.{both_true, both_false, both_if}

module _ (v : ℕ → ℕ) (u i : ℕ) where
  pub vacant_yes : i < u → v i % 2 ≡ 0 → vacant_by v u i ≡ true
  vacant_yes h e = simp (lt-ltb i u h, eq-eqb (v i % 2) 0 e)

  pub vacant_no : (i < u → v i % 2 ≡ 1) → vacant_by v u i ≡ false
  vacant_no h = both_if (ltb i u) (is_even (v i)) (λ e. ne_eqb (v i % 2) 0 (λ z. omega (arith, h (ltb-true i u e))))

  pub vacant_is : vacant_by v u i ≡ true → (i < u) × (v i % 2 ≡ 0)
  vacant_is e = let f = both_true (ltb i u) (eqb (v i % 2) 0) e in (ltb-true i u f.0, eqb-true (v i % 2) 0 f.1)

  pub vacant_not : vacant_by v u i ≡ false → i < u → v i % 2 ≡ 1
  vacant_not e h =
      let n : v i % 2 ≡ 0 → ⊥ = eqb-false (v i % 2) 0 (both_false (ltb i u) (eqb (v i % 2) 0) e (lt-ltb i u h)) in omega (arith, n)

  pub occupied_yes : i < u → v i % 2 ≡ 1 → occupied_by v u i ≡ true
  occupied_yes h e = simp (lt-ltb i u h, eq-eqb (v i % 2) 1 e)

  pub occupied_no : (i < u → v i % 2 ≡ 0) → occupied_by v u i ≡ false
  occupied_no h = both_if (ltb i u) (is_odd (v i)) (λ e. ne_eqb (v i % 2) 1 (λ z. omega (arith, h (ltb-true i u e))))

  pub occupied_is : occupied_by v u i ≡ true → (i < u) × (v i % 2 ≡ 1)
  occupied_is e = let f = both_true (ltb i u) (eqb (v i % 2) 1) e in (ltb-true i u f.0, eqb-true (v i % 2) 1 f.1)

  pub occupied_not : occupied_by v u i ≡ false → i < u → v i % 2 ≡ 0
  occupied_not e h =
      let n : v i % 2 ≡ 1 → ⊥ = eqb-false (v i % 2) 1 (both_false (ltb i u) (eqb (v i % 2) 1) e (lt-ltb i u h)) in omega (arith, n)
