-- An occupied slot becomes vacant: what becomes of fronts and ends. Assumes nothing.
use mathlib.Core.Path.{◌≡◌, refl, sym, ap, ◌∙◌, subst}
use mathlib.Core.Logic.{◌≢◌}
use mathlib.Core.List.{List, ◌∷◌}
use Prim.Native.Nat.{ℕ, suc, ◌≤◌, ◌<◌, ◌%◌}
use native.Mathlib.Decide.{ℕ_discrete, dec_lt}
use native.Mathlib.Omega.{arith}
use Rattle.rules.specs.Choice.{times}
use Rattle.rules.specs.Runs.{Front, Run}
use Rattle.runs.proofs.Points.{alike_other}
use Rattle.runs.proofs.Runs.{par, front_kept, run_kept, run_same, Down, Up, down_here, down_more, up_here, up_more}
use Rattle.runs.proofs.Fronts.{Fronts, Ended, same_times}

-- slot i = j + 1, occupied, becomes vacant; the slot after it is r
module _ (v v' : ℕ → ℕ) (u j : ℕ) (low : suc j < u) (odd : v (suc j) % 2 ≡ 1) (even' : v' (suc j) % 2 ≡ 0)
    (same : (k : ℕ) → k ≢ suc j → v' k ≡ v k) where
  abbrev i : ℕ
  i = suc j

  abbrev r : ℕ
  r = suc (suc j)

  -- a front at another slot was one before
  front_before : (k : ℕ) → k ≢ i → Front v' u k → Front v u k
  front_before k n f = front_kept f.below (same k n) (λ m e. same m (λ t. omega (arith, f.starts m e, par v' m i t))) f

  -- a front stays one, but for slot r
  front_still : (k : ℕ) → k ≢ r → Front v u k → Front v' u k
  front_still k n f =
      let not_i : k ≢ i = λ t. omega (arith, f.vacant, par v k i t) in
      front_kept f.below (sym (same k not_i)) (λ m e. sym (same m (λ t. omega arith))) f

  -- slot i becomes a front where slot j is occupied, and only there
  front_new : v j % 2 ≡ 1 → Front v' u i
  front_new left =
      record { below = low; vacant = even'; starts = λ m e. omega (arith, par v m j (omega arith), same m (λ t. omega arith)) }

  front_only : Front v' u i → v j % 2 ≡ 1
  front_only f = omega (arith, f.starts j refl, same j (λ t. omega arith))

  -- slot r is no front
  right_no_front : Front v' u r → ⊥
  right_no_front f = omega (arith, f.starts i refl)

  -- the list has the fronts afterwards, where slot i stands in it if j is occupied, r does not, and all others stand as before
  pub freed_fronts : (l l' : List ℕ) → Fronts v u l → ((k : ℕ) → k ≢ i → k ≢ r → times k l' ≡ times k l)
      → times r l' ≡ 0 → times i l' ≡ v j % 2 → Fronts v' u l'
  freed_fronts l l' fronts others at-r at_i = record {
    zero_even = omega (arith, fronts.zero_even, same 0 (λ t. omega arith));
    positive = fronts.positive;
    every = λ k f. every_after k f (ℕ_discrete k i) (ℕ_discrete k r);
    only = λ k h. only_after k h (ℕ_discrete k i) (ℕ_discrete k r);
  }
    where
      every_after : (k : ℕ) → Front v' u k → Dec (k ≡ i) → Dec (k ≡ r) → times k (0 ∷ l') ≡ 1
      every_after k f (yes e) _ =
          omega (arith, same_times k i l' e, front_only (subst (Front v' u) e f), alike_other k 0 (λ t. omega arith))
      every_after k f (no n) (yes e) = absurd (right_no_front (subst (Front v' u) e f))
      every_after k f (no n) (no m) = omega (arith, fronts.every k (front_before k n f), others k n m)

      only_after : (k : ℕ) → 1 ≤ times k (0 ∷ l') → Dec (k ≡ i) → Dec (k ≡ r) → Front v' u k
      only_after k h (yes e) _ =
          subst (Front v' u) (sym e) (front_new (omega (arith, same_times k i l' e, alike_other k 0 (λ t. omega arith))))
      only_after k h (no n) (yes e) = absurd (omega (arith, same_times k r l' e, alike_other k 0 (λ t. omega arith)))
      only_after k h (no n) (no m) = front_still k m (fronts.only k (omega (arith, others k n m)))

  -- the run that holds slot i then goes down to i itself, or to the front of the run that ended at j
  pub left_end : v j % 2 ≡ 1 → Down v' i i
  left_end left = down_here even' (front_new left).starts

  pub left_joined : (f : ℕ) → Run v u f j → Down v' i f
  left_joined f run = down_more below_i even'
    where
      below_i : Down v' j f
      below_i = record {
        ordered = run.ordered;
        starts = λ m e. omega (arith, run.front.starts m e, same m (λ t. omega (arith, run.ordered)));
        vacant = λ k p q. omega (arith, run.vacant k p q, same k (λ t. omega arith));
      }

  -- and goes up to i itself, or to the back of the run that began at r
  pub right_end : (r < u → v r % 2 ≡ 1) → Up v' u i i
  right_end right = up_here low even' (λ h. omega (arith, right h, same r (λ t. omega arith)))

  pub right_joined : (b : ℕ) → Run v u r b → Up v' u i b
  right_joined b run = up_more above_i even'
    where
      above_i : Up v' u r b
      above_i = record {
        ordered = run.ordered;
        vacant = λ k p q. omega (arith, run.vacant k p q, same k (λ t. omega arith));
        below = run.below;
        stops = λ h. omega (arith, run.stops h, same (suc b) (λ t. omega (arith, run.ordered)));
      }

  -- a run that does not hold slot i stood before
  run_before : (f b : ℕ) → Run v' u f b → ((k : ℕ) → f ≤ k → k ≤ b → k ≢ i) → Run v u f b
  run_before f b run n =
      run_kept (λ m e. same m (λ t. omega (arith, run.front.starts m e, par v' m i t))) (λ k p q. same k (n k p q))
      (λ h. same (suc b) (λ t. omega (arith, run.stops h, par v' (suc b) i t))) run

  -- the ends fit, where the run that holds slot i has its own written and nothing outside it has changed
  pub freed_ends : (e e' : ℕ → ℕ) (f₀ b₀ : ℕ) → Run v' u f₀ b₀ → f₀ ≤ i → i ≤ b₀ → Ended v u e
      → e' f₀ ≡ b₀ → e' b₀ ≡ f₀ → ((k : ℕ) → k < f₀ → e' k ≡ e k) → ((k : ℕ) → b₀ < k → e' k ≡ e k) → Ended v' u e'
  freed_ends e e' f₀ b₀ run₀ p₀ q₀ ends at_front at_back below above f b run = go (dec_lt b f₀) (dec_lt b₀ f)
    where
      go : Dec (b < f₀) → Dec (b₀ < f) → (e' f ≡ b) × (e' b ≡ f)
      go (yes h) _ =
          let old = ends f b (run_before f b run (λ k p q t. omega arith)) in
          (below f (omega (arith, run.ordered)) ∙ old.0, below b h ∙ old.1)
      go (no n) (yes h) =
          let old = ends f b (run_before f b run (λ k p q t. omega arith)) in
          (above f h ∙ old.0, above b (omega (arith, run.ordered)) ∙ old.1)
      go (no n) (no m) =
          let s = run_same v' u f b f₀ b₀ run run₀ (omega arith) (omega arith) in
          (ap e' s.0 ∙ at_front ∙ sym s.1, ap e' s.1 ∙ at_back ∙ sym s.0)
