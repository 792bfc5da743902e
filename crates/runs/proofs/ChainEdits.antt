-- The chain with a front renamed or left out. Assumes nothing.
use mathlib.Core.Path.{◌≡◌, refl, sym}
use mathlib.Core.List.{List, [], ◌∷◌, ◌++◌}
use mathlib.Core.Bool.{false}
use Prim.Native.Nat.{ℕ, ◌≤◌}
use native.Mathlib.Omega.{arith}
use borrow.Author.Tests.{eq-eqb, ne_eqb}
use lib.Dec.{eqb}
use Rattle.rules.specs.Choice.{times}
use Rattle.runs.specs.Machine.{renamed, without}
use Rattle.runs.proofs.Points.{alike_same}
use Rattle.runs.proofs.Times.{times_append}

module _ (r : ℕ) where
  -- one that is not r stays
  other : (x : ℕ) (l : List ℕ) → times r (x ∷ l) ≡ 0 → eqb x r ≡ false
  other x l h = ne_eqb x r (λ q. omega (arith, alike_same r x (sym q)))

  renamed_none : (i : ℕ) (l : List ℕ) → times r l ≡ 0 → renamed r i l ≡ l
  renamed_none i [] h = refl
  renamed_none i (x ∷ l) h = simp (other x l h, renamed_none i l (omega arith))

  without_none : (l : List ℕ) → times r l ≡ 0 → without r l ≡ l
  without_none [] h = refl
  without_none (x ∷ l) h = simp (other x l h, without_none l (omega arith))

  -- r stands once: ahead of it and behind it all stays
  pub renamed_at : (i : ℕ) (a b : List ℕ) → times r (a ++ r ∷ b) ≤ 1 → renamed r i (a ++ r ∷ b) ≡ a ++ i ∷ b
  renamed_at i [] b h = simp (eq-eqb r r refl, renamed_none i b (omega (arith, alike_same r r refl)))
  renamed_at i (x ∷ a) b h =
      let n = ne_eqb x r (λ q. omega (arith, alike_same r x (sym q), times_append r a (r ∷ b), alike_same r r refl)) in
      simp (n, renamed_at i a b (omega arith))

  pub without_at : (a b : List ℕ) → times r (a ++ r ∷ b) ≤ 1 → without r (a ++ r ∷ b) ≡ a ++ b
  without_at [] b h = simp (eq-eqb r r refl, without_none b (omega (arith, alike_same r r refl)))
  without_at (x ∷ a) b h =
      let n = ne_eqb x r (λ q. omega (arith, alike_same r x (sym q), times_append r a (r ∷ b), alike_same r r refl)) in
      simp (n, without_at a b (omega arith))
