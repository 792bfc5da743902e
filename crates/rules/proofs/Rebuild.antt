-- What rebuild's tests tell where they passed. Assumes nothing.
use Prim.Native.Nat.{ℕ, ◌≤◌, ◌%◌}
use mathlib.Core.List.{List}
use mathlib.Core.Path.{◌≡◌}
use native.Mathlib.Omega.{arith}
use lib.ListN.{length}
use lib.Dec.{ltb, eqb}
use borrow.Author.Tests.{eqb-false, ltb-false}
use Rattle.rules.specs.Words.{lent_of, version_at}
use Rattle.rules.specs.Refusals.{◌▸◌, shape, lent_number}
use Rattle.rules.specs.Rebuild.{rebuild_number}
use Rattle.rules.proofs.Refusals.{passed}
use Rattle.rules.proofs.Shape.{Lent, lent}

-- past the tests of 1: the tables may be lent, and n, the number of presence bytes, is from 1 to the lent count
pub record Sized (l r bytes : List ℕ) : Type 0 where
  pub may_be_lent : lent_number (length l) (length r) ≡ 0
  pub lent : Lent (length l) (length r) (lent_of l)
  pub some : 1 ≤ length bytes
  pub within : length bytes ≤ lent_of l

pub sized : (l r bytes : List ℕ) →
    lent_number (length l) (length r) ▸ (eqb (length bytes) 0, shape) ▸ (ltb (lent_of l) (length bytes), shape) ≡ 0 →
    Sized l r bytes
sized l r bytes e =
    let e₂ = passed _ _ _ (omega arith) e in
    let e₁ = passed _ _ _ (omega arith) e₂.0 in
    let some : length bytes ≡ 0 → ⊥ = eqb-false _ _ e₁.1 in
    record {
      may_be_lent = e₁.0;
      lent = lent _ _ e₁.0;
      some = omega (arith, some);
      within = ltb-false _ _ e₂.1;
    }

-- past them all: slot 0 is vacant too
pub record Tested (l r bytes : List ℕ) : Type 0 where
  pub sized : Sized l r bytes
  pub even : version_at l (length bytes) 0 % 2 ≡ 0

pub rebuild_passed : (l r bytes : List ℕ) → rebuild_number l r bytes ≡ 0 → Tested l r bytes
unfolding rebuild_number
rebuild_passed l r bytes e =
    let e₄ = passed _ _ _ (omega arith) e in
    let e₃ = passed _ _ _ (omega arith) e₄.0 in
    let odd : version_at l (length bytes) 0 % 2 ≡ 1 → ⊥ = eqb-false _ _ e₄.1 in
    record { sized = sized l r bytes e₃.0; even = omega (arith, odd) }
