-- How often a number stands in a list: membership and no repeats in one count. Assumes nothing.
use mathlib.Core.Path.{◌≡◌, refl, sym, ap, subst}
use mathlib.Core.List.{List, [], ◌∷◌, ◌++◌}
use Prim.Native.Nat.{ℕ, suc, ◌+◌, ◌≤◌}
use native.Mathlib.Decide.{ℕ_discrete}
use native.Mathlib.Omega.{arith}
use lib.ListN.{length, length-append}
use Rattle.rules.specs.Choice.{alike, times}
use Rattle.runs.proofs.Points.{alike_same, alike_other}

-- the first of a list stands in it
pub times_head : (x : ℕ) (l : List ℕ) → 1 ≤ times x (x ∷ l)
times_head x l = omega (arith, alike_same x x refl)

-- in two lists joined, as often as in both
pub times_append : (x : ℕ) (s t : List ℕ) → times x (s ++ t) ≡ times x s + times x t
times_append x [] t = omega arith
times_append x (y ∷ ys) t = let ih = times_append x ys t in omega arith

-- what lies before x in a list and what after it
abbrev Split : ℕ → List ℕ → Type 0
Split x l = (a : List ℕ) × (b : List ℕ) × (l ≡ a ++ x ∷ b)

-- a list splits at whatever stands in it
pub times_split : (x : ℕ) (l : List ℕ) → 1 ≤ times x l → Split x l
times_split x [] h = absurd (omega arith)
times_split x (y ∷ ys) h = go (ℕ_discrete x y) (times_split x ys)
  where
    go : Dec (x ≡ y) → (1 ≤ times x ys → Split x ys) → Split x (y ∷ ys)
    go (yes e) rest = ([], ys, cc)
    go (no n) rest = let s = rest (omega (arith, alike_other x y n)) in (y ∷ s.0, s.1, ap (λ (l : List ℕ). y ∷ l) s.2)

-- a list with one x taken out
pub times_less : (x : ℕ) (l : List ℕ) → 1 ≤ times x l
    → (m : List ℕ) × ((k : ℕ) → times k l ≡ alike k x + times k m) × (length l ≡ suc (length m))
times_less x l h =
    let c = times_split x l h in (
      c.0 ++ c.1,
      (λ k. omega (arith, ap (times k) c.2, times_append k c.0 (x ∷ c.1), times_append k c.0 c.1)),
      omega (arith, ap length c.2, length-append c.0 (x ∷ c.1), length-append c.0 c.1),
    )

-- one more in front: still none twice where it is new
pub times_once : (x : ℕ) (l : List ℕ) → times x l ≡ 0 → ((k : ℕ) → times k l ≤ 1) → (k : ℕ) → times k (x ∷ l) ≤ 1
times_once x l new once k = go (ℕ_discrete k x)
  where
    go : Dec (k ≡ x) → times k (x ∷ l) ≤ 1
    go (yes e) = omega (arith, alike_same k x e, ap (λ (y : ℕ). times y l) e)
    go (no n) = omega (arith, alike_other k x n, once k)

-- what holds of one more in front and of each of the rest holds of each
pub times_each : (P : ℕ → Type 0) (x : ℕ) (l : List ℕ) → P x → ((k : ℕ) → 1 ≤ times k l → P k)
    → (k : ℕ) → 1 ≤ times k (x ∷ l) → P k
times_each P x l p each k h = go (ℕ_discrete k x)
  where
    go : Dec (k ≡ x) → P k
    go (yes e) = subst P (sym e) p
    go (no n) = each k (omega (arith, alike_other k x n))
