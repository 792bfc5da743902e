-- Scanning finds a run's back. Assumes nothing.
use mathlib.Core.Path.{◌≡◌, ◌∙◌, sym, subst}
use Prim.Native.Nat.{ℕ, zero, suc, ◌+◌, ◌-◌, ◌≤◌, ◌<◌, ◌%◌}
use native.Mathlib.Decide.{ℕ_discrete, dec_lt}
use native.Mathlib.Omega.{arith}
use Rattle.rules.specs.Runs.{Front, Run}
use Rattle.rules.proofs.SlotTests.{vacant_yes, vacant_no}
use Rattle.runs.specs.Machine.{back_within, back_of}
use Rattle.runs.proofs.Runs.{par, front_run}

module _ (v : ℕ → ℕ) (u : ℕ) where
  goes_on : (d k : ℕ) → suc k < u → v (suc k) % 2 ≡ 0 → back_within v u (suc d) k ≡ back_within v u d (suc k)
  unfolding back_within
  goes_on d k h e = simp (vacant_yes v u (suc k) h e)

  stops_at_end : (d k : ℕ) → u ≤ suc k → back_within v u (suc d) k ≡ k
  unfolding back_within
  stops_at_end d k h = simp (vacant_no v u (suc k) (λ q. absurd (omega arith)))

  stops_before : (d k : ℕ) → v (suc k) % 2 ≡ 1 → back_within v u (suc d) k ≡ k
  unfolding back_within
  stops_before d k e = simp (vacant_no v u (suc k) (λ _. e))

  within_run : (f b d k : ℕ) → Run v u f b → f ≤ k → k ≤ b → k + d ≡ u → back_within v u d k ≡ b
  within_run f b zero k r p q e = absurd (omega (arith, r.below))
  within_run f b (suc d) k r p q e = go (ℕ_discrete k b) (dec_lt (suc k) u) (within_run f b d (suc k) r)
    where
      go : Dec (k ≡ b) → Dec (suc k < u) → (f ≤ suc k → suc k ≤ b → suc k + d ≡ u → back_within v u d (suc k) ≡ b) → back_within v u (suc d) k ≡ b
      go (yes t) (no n) ih = stops_at_end d k (omega arith) ∙ t
      go (yes t) (yes l) ih = stops_before d k (omega (arith, r.stops (omega arith), par v (suc k) (suc b) (omega arith))) ∙ t
      go (no t) _ ih =
          goes_on d k (omega (arith, r.below)) (r.vacant (suc k) (omega arith) (omega arith)) ∙ ih (omega arith) (omega arith) (omega arith)

  pub back_of_run : (f b : ℕ) → Run v u f b → back_of v u f ≡ b
  back_of_run f b r = within_run f b (u - f) f r (omega arith) r.ordered (omega (arith, r.below, r.ordered))

  -- so from a front there is a run to the back found
  pub run_from : (f : ℕ) → Front v u f → Run v u f (back_of v u f)
  run_from f h =
      let r = front_run v u f h in
      subst (λ (x : ℕ). Run v u f x) (sym (back_of_run f r.0 r.1)) r.1
