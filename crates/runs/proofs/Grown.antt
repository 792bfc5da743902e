-- An occupied slot comes into use at the end: fronts and ends stay. Assumes nothing.
use mathlib.Core.Path.{◌≡◌, sym, ◌∙◌}
use mathlib.Core.Logic.{◌≢◌}
use mathlib.Core.List.{List}
use Prim.Native.Nat.{ℕ, suc, ◌<◌, ◌%◌}
use native.Mathlib.Omega.{arith}
use Rattle.rules.specs.Runs.{Front, Run}
use Rattle.runs.proofs.Runs.{par, make_run, front_kept}
use Rattle.runs.proofs.Fronts.{Fronts, Ended}

-- slot u, occupied, comes into use
module _ (v v' : ℕ → ℕ) (u : ℕ) (odd' : v' u % 2 ≡ 1) (same : (k : ℕ) → k < u → v' k ≡ v k) where
  -- a vacant slot is not the new one
  vacant_below_lem : (k : ℕ) → k < suc u → v' k % 2 ≡ 0 → k < u
  vacant_below_lem k low even =
      let not-u : k ≢ u = λ t. omega (arith, par v' k u t) in
      omega arith

  -- a front was one before
  front_before : (k : ℕ) → Front v' (suc u) k → Front v u k
  front_before k f =
      let low : k < u = vacant_below_lem k f.below f.vacant in
      front_kept low (same k low) (λ m e. same m (omega arith)) f

  -- and a front stays one
  front_still : (k : ℕ) → Front v u k → Front v' (suc u) k
  front_still k f =
      let low : k < u = f.below in
      front_kept (omega arith) (sym (same k low)) (λ m e. sym (same m (omega arith))) f

  -- so the list has the fronts afterwards too
  pub grown_fronts : (l : List ℕ) → Fronts v u l → Fronts v' (suc u) l
  grown_fronts l fronts = record {
    zero_even = omega (arith, fronts.zero_even, same 0 fronts.positive);
    positive = omega arith;
    every = λ k f. fronts.every k (front_before k f);
    only = λ k h. front_still k (fronts.only k h);
  }

  -- a run stood before
  run_before : (f b : ℕ) → Run v' (suc u) f b → b < u → Run v u f b
  run_before f b run low =
      make_run (front_before f run.front).starts run.ordered
      (λ k p q. omega (arith, run.vacant k p q, same k (omega arith))) low
      (λ h. omega (arith, run.stops (omega arith), same (suc b) h))

  -- so the ends fit, where those below u have not changed
  pub grown_ends : (e e' : ℕ → ℕ) → ((k : ℕ) → k < u → e' k ≡ e k) → Ended v u e → Ended v' (suc u) e'
  grown_ends e e' others ends f b run =
      let low : b < u = vacant_below_lem b run.below (run.vacant b run.ordered (omega arith)) in
      let old = ends f b (run_before f b run low) in
      (others f (omega (arith, run.ordered)) ∙ old.0, others b low ∙ old.1)
