-- A step taken over and over: where a measure falls with each step, any number from the measure on is enough. Assumes nothing.
use Prim.Native.Nat.{ℕ, zero, suc, ◌≤◌, ◌<◌}
use mathlib.Core.Bool.{Bool, true, false}
use mathlib.Core.Path.{◌≡◌, refl, sym, ◌∙◌}
use native.Mathlib.Omega.{arith}
use Rattle.rules.proofs.Choice.{by_test, by_pick}
use Rattle.stream.specs.Repeats.{while}

module _ {A : Type 0} (goes : A → Bool) (step : A → A) where
  -- where the test fails, nothing is done
  pub stopped : (n : ℕ) (a : A) → goes a ≡ false → while goes step n a ≡ a
  unfolding while
  stopped zero a h = refl
  stopped (suc n) a h = rw h refl

  -- where it holds, a step is taken
  pub stepped : (n : ℕ) (a : A) → goes a ≡ true → while goes step (suc n) a ≡ while goes step n (step a)
  unfolding while
  stepped n a h = rw h refl

  module _ (μ : A → ℕ) (falls : (a : A) → goes a ≡ true → μ (step a) < μ a) where
    still : (a : A) → μ a ≤ 0 → goes a ≡ false
    still a p = by_test (λ (t : Bool). t ≡ false) (goes a) (λ h. absurd (omega (arith, falls a h, p))) (λ h. refl)

    pub enough : (n m : ℕ) (a : A) → μ a ≤ n → μ a ≤ m → while goes step n a ≡ while goes step m a
    enough zero m a p q = stopped zero a (still a p) ∙ sym (stopped m a (still a p))
    enough (suc n) zero a p q = stopped (suc n) a (still a q) ∙ sym (stopped zero a (still a q))
    enough (suc n) (suc m) a p q =
        by_test (λ (t : Bool). goes a ≡ t → while goes step (suc n) a ≡ while goes step (suc m) a) (goes a)
        (λ h _. stepped n a h ∙ enough n m (step a) (omega (arith, falls a h, p)) (omega (arith, falls a h, q)) ∙ sym (stepped m a h))
        (λ h _. stopped (suc n) a h ∙ sym (stopped (suc m) a h))
        refl

    -- one step, with any numbers that are enough before it and after it
    pub onward : (n m : ℕ) (a : A) → goes a ≡ true → μ a ≤ n → μ (step a) ≤ m → while goes step n a ≡ while goes step m (step a)
    onward zero m a h p q = absurd (omega (arith, falls a h, p))
    onward (suc n) m a h p q = stepped n a h ∙ enough n m (step a) (omega (arith, falls a h, p)) q

    -- with enough steps the test fails at last
    pub at_last : (n : ℕ) (a : A) → μ a ≤ n → goes (while goes step n a) ≡ false
    at_last zero a p = rw (stopped zero a (still a p)) (still a p)
    at_last (suc n) a p =
        by_test (λ (t : Bool). goes a ≡ t → goes (while goes step (suc n) a) ≡ false) (goes a)
        (λ h _. rw (stepped n a h) (at_last n (step a) (omega (arith, falls a h, p))))
        (λ h _. rw (stopped (suc n) a h) h)
        refl

  -- what each step keeps holds after any number of them
  pub kept : (P : A → Type 0) → ((a : A) → goes a ≡ true → P a → P (step a)) → (n : ℕ) (a : A) → P a → P (while goes step n a)
  unfolding while
  kept P keeps zero a p = p
  kept P keeps (suc n) a p = by_pick P (goes a) _ _ (λ h. kept P keeps n (step a) (keeps a h p)) (λ _. p)
