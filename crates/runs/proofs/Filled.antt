-- A run's back becomes occupied: what becomes of fronts and ends. Assumes nothing.
use mathlib.Core.Path.{◌≡◌, sym, ap, ◌∙◌}
use mathlib.Core.Logic.{◌≢◌}
use mathlib.Core.List.{List, ◌∷◌}
use Prim.Native.Nat.{ℕ, suc, ◌≤◌, ◌<◌, ◌%◌}
use native.Mathlib.Decide.{ℕ_discrete, dec_lt}
use native.Mathlib.Omega.{arith}
use Rattle.rules.specs.Choice.{times}
use Rattle.rules.specs.Runs.{Front, Run}
use Rattle.runs.proofs.Points.{alike_other}
use Rattle.runs.proofs.Runs.{par, make_run, front_kept, run_kept, run_same}
use Rattle.runs.proofs.Fronts.{Fronts, Ended, same_times}

-- slot b, the back of the run from h, becomes occupied
module _ (v v' : ℕ → ℕ) (u h b : ℕ) (run : Run v u h b) (odd' : v' b % 2 ≡ 1) (same : (k : ℕ) → k ≢ b → v' k ≡ v k) where
  -- a slot that is vacant afterwards is not slot b
  vacant_not_b : (k : ℕ) → v' k % 2 ≡ 0 → k ≢ b
  vacant_not_b k even t = omega (arith, par v' k b t)

  -- slot b does not stand right before a front: it was vacant itself
  not_before_front : (k : ℕ) → Front v u k → (m : ℕ) → suc m ≡ k → m ≢ b
  not_before_front k f m e t = omega (arith, f.starts m e, par v m b t, run.vacant b run.ordered (omega arith))

  -- nor does it afterwards: the slot after it is not vacant
  not_before_front' : (k : ℕ) → Front v' u k → (m : ℕ) → suc m ≡ k → m ≢ b
  not_before_front' k f m e t =
      let same-k = same k (vacant_not_b k f.vacant) in
      omega (arith, f.vacant, run.stops (omega (arith, f.below)), par v k (suc b) (omega arith))

  -- a front was one before
  front_before : (k : ℕ) → Front v' u k → Front v u k
  front_before k f = front_kept f.below (same k (vacant_not_b k f.vacant)) (λ m e. same m (not_before_front' k f m e)) f

  -- a front at another slot stays one
  front_still : (k : ℕ) → k ≢ b → Front v u k → Front v' u k
  front_still k n f = front_kept f.below (sym (same k n)) (λ m e. sym (same m (not_before_front k f m e))) f

  -- the list has the fronts afterwards, where slot b does not stand in it and all others stand as before
  pub filled_fronts : (l l' : List ℕ) → b ≢ 0 → Fronts v u l
      → ((k : ℕ) → k ≢ b → times k l' ≡ times k l) → times b l' ≡ 0 → Fronts v' u l'
  filled_fronts l l' not_0 fronts others at_b = record {
    zero_even = omega (arith, fronts.zero_even, same 0 (λ t. omega arith));
    positive = fronts.positive;
    every = λ k f. omega (arith, fronts.every k (front_before k f), others k (vacant_not_b k f.vacant));
    only = λ k q. only_after k q (ℕ_discrete k b);
  }
    where
      only_after : (k : ℕ) → 1 ≤ times k (0 ∷ l') → Dec (k ≡ b) → Front v' u k
      only_after k q (yes t) = absurd (omega (arith, same_times k b l' t, alike_other k 0 (λ x. omega arith)))
      only_after k q (no n) = front_still k n (fronts.only k (omega (arith, others k n)))

  -- a run that does not end just below slot b stood before
  run_before : (f c : ℕ) → Run v' u f c → suc c ≢ b → Run v u f c
  run_before f c r n =
      run_kept (λ m e. same m (not_before_front' f r.front m e)) (λ k p q. same k (vacant_not_b k (r.vacant k p q)))
      (λ _. same (suc c) n) r

  -- and lies before the run from h to b, unless it lies after it
  run_apart : (f c : ℕ) → Run v' u f c → suc c ≢ b → (b < f → ⊥) → c < h
  run_apart f c r n m =
      let same_back : h ≤ c → c ≡ b = λ q. (run_same v u f c h b (run_before f c r n) run (omega arith) q).1 in
      let not_back : c ≢ b = vacant_not_b c (r.vacant c r.ordered (omega arith)) in
      let no-overlap : h ≤ c → ⊥ = λ q. not_back (same_back q) in
      omega arith

  -- the run was slot b alone: the ends fit, where those of other slots have not changed
  pub last_ends : (e e' : ℕ → ℕ) → h ≡ b → ((k : ℕ) → k ≢ b → e' k ≡ e k) → Ended v u e → Ended v' u e'
  last_ends e e' alone others ends f c r =
      let at_back : v' c % 2 ≡ 0 = r.vacant c r.ordered (omega arith) in
      let n : suc c ≢ b = λ t. omega (arith, at_back, same c (λ q. omega arith), run.front.starts c (omega arith)) in
      let old = ends f c (run_before f c r n) in
      (others f (vacant_not_b f r.front.vacant) ∙ old.0, others c (vacant_not_b c at_back) ∙ old.1)

  -- the run was longer: it ends at the slot d before b
  run_shorter : (d : ℕ) → suc d ≡ b → h ≤ d → Run v' u h d
  run_shorter d t ordered =
      make_run (λ m e. omega (arith, run.front.starts m e, same m (λ q. omega arith))) ordered
      (λ k p q. omega (arith, run.vacant k p (omega arith), same k (λ x. omega arith))) (omega (arith, run.below))
      (λ q. omega (arith, par v' (suc d) b t))

  -- the ends fit, where it has its own written and nothing outside it has changed
  pub back_ends : (e e' : ℕ → ℕ) (d : ℕ) → suc d ≡ b → h ≤ d → e' h ≡ d → e' d ≡ h
      → ((k : ℕ) → k < h → e' k ≡ e k) → ((k : ℕ) → b < k → e' k ≡ e k) → Ended v u e → Ended v' u e'
  back_ends e e' d eq ordered at_front at_back below above ends f c r = go (ℕ_discrete (suc c) b) (dec_lt b f)
    where
      go : Dec (suc c ≡ b) → Dec (b < f) → (e' f ≡ c) × (e' c ≡ f)
      go (yes t) _ =
          let s = run_same v' u f c h d r (run_shorter d eq ordered) (omega (arith, r.ordered)) (omega arith) in
          (ap e' s.0 ∙ at_front ∙ sym s.1, ap e' s.1 ∙ at_back ∙ sym s.0)
      go (no n) (yes m) =
          let old = ends f c (run_before f c r n) in
          (above f m ∙ old.0, above c (omega (arith, r.ordered)) ∙ old.1)
      go (no n) (no m) =
          let old = ends f c (run_before f c r n) in
          let q = run_apart f c r n m in
          (below f (omega (arith, r.ordered)) ∙ old.0, below c q ∙ old.1)
