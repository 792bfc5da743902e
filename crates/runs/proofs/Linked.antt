-- A linked table: next, prev and other_end fit the runs. Assumes nothing.
use mathlib.Core.Path.{◌≡◌, sym, subst}
use mathlib.Core.Logic.{◌≢◌}
use mathlib.Core.List.{List, ◌∷◌}
use Prim.Native.Nat.{ℕ, suc, ◌≤◌, ◌<◌, ◌%◌}
use native.Mathlib.Omega.{arith}
use Rattle.rules.specs.Choice.{times}
use Rattle.rules.specs.Runs.{Front, Run}
use Rattle.runs.proofs.Segments.{Seg, seg_first}
use Rattle.runs.proofs.Runs.{par, front_run, back_run}
use Rattle.runs.proofs.Fronts.{Fronts, Ended, fronts_once}

-- versions v, next n, prev p, other_end e; u slots in use; the runs' fronts in chain order, slot 0's left out, are l
pub record Linked (v n p e : ℕ → ℕ) (u : ℕ) (l : List ℕ) : Type 0 where
  pub fronts : Fronts v u l
  pub seg : Seg n p 0 l 0
  pub ends : Ended v u e

module _ {v n p e : ℕ → ℕ} {u : ℕ} {l : List ℕ} (L : Linked v n p e u l) where
  -- no slot is twice in the chain
  pub once : (k : ℕ) → times k (0 ∷ l) ≤ 1
  once = fronts_once v u l L.fronts

  -- a slot in the chain is not an occupied one
  pub listed_not : (k i : ℕ) → v i % 2 ≡ 1 → 1 ≤ times k (0 ∷ l) → k ≢ i
  listed_not k i odd h t = omega (arith, (L.fronts.only k h).vacant, par v k i t)

  -- what is no front is not in the chain
  pub not_listed : (k : ℕ) → (Front v u k → ⊥) → times k (0 ∷ l) ≡ 0
  not_listed k h =
      let not-once : 1 ≤ times k (0 ∷ l) → ⊥ = λ q. h (L.fronts.only k q) in
      omega arith

  -- from a front a run goes to its other_end
  pub run_from : (f : ℕ) → Front v u f → Run v u f (e f)
  run_from f h = let r = front_run v u f h in subst (Run v u f) (sym (L.ends f r.0 r.1).0) r.1

  -- to a back a run comes from its other_end
  pub run_to : (b : ℕ) → b < u → v b % 2 ≡ 0 → (suc b < u → v (suc b) % 2 ≡ 1) → Run v u (e b) b
  run_to b low even stops =
      let r = back_run v u b low even stops in subst (λ (f : ℕ). Run v u f b) (sym (L.ends r.0 b r.1).1) r.1

-- the run of the chain's first front, which an insert takes its slot from
pub first_run : (v n p e : ℕ → ℕ) (u : ℕ) (l : List ℕ) → Linked v n p e u l → Run v u (n 0) (e (n 0))
first_run v n p e u l L = run_from L (n 0) (L.fronts.only (n 0) (omega (arith, seg_first n p 0 l 0 L.seg)))
