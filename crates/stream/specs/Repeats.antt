-- A step taken over and over while a test holds, so many times at most.
use Rattle.std.specs.Prelude.{ℕ, zero, suc, Bool}
use Rattle.rules.specs.Choice.{pick}

unfoldable pub while : {A : Type 0} → (A → Bool) → (A → A) → ℕ → A → A
while goes step zero a = a
while goes step (suc n) a = pick (goes a) (while goes step n (step a)) a
