-- The fronts of runs as a list, and the words at both ends of a run. Assumes nothing.
use mathlib.Core.Path.{◌≡◌, ap}
use mathlib.Core.List.{List, ◌∷◌}
use Prim.Native.Nat.{ℕ, ◌≤◌, ◌<◌, ◌%◌}
use native.Mathlib.Omega.{arith}
use Rattle.rules.specs.Choice.{times}
use Rattle.rules.specs.Runs.{Front, Run}

-- the list, with 0 ahead of it, has each run's front once and nothing else
pub record Fronts (v : ℕ → ℕ) (u : ℕ) (l : List ℕ) : Type 0 where
  pub zero_even : v 0 % 2 ≡ 0
  pub positive : 0 < u
  pub every : (k : ℕ) → Front v u k → times k (0 ∷ l) ≡ 1
  pub only : (k : ℕ) → 1 ≤ times k (0 ∷ l) → Front v u k

-- none stands in it twice
pub fronts_once : (v : ℕ → ℕ) (u : ℕ) (l : List ℕ) → Fronts v u l → (k : ℕ) → times k (0 ∷ l) ≤ 1
fronts_once v u l fronts k =
    let not-twice : 2 ≤ times k (0 ∷ l) → ⊥ = λ h. omega (arith, fronts.every k (fronts.only k (omega arith))) in
    omega arith

-- a slot under two names stands in a list equally often
pub same_times : (a b : ℕ) (l : List ℕ) → a ≡ b → times a l ≡ times b l
same_times a b l e = ap (λ (x : ℕ). times x l) e

-- at each run's front stands its back, and at its back its front
abbrev pub Ended : (ℕ → ℕ) → ℕ → (ℕ → ℕ) → Type 0
Ended v u e = (f b : ℕ) → Run v u f b → (e f ≡ b) × (e b ≡ f)
