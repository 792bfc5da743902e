-- A function of the slot, changed at one slot.
use Rattle.std.specs.Prelude.{ℕ, eqb}
use Rattle.rules.specs.Choice.{pick}

unfoldable pub put : {A : Type 0} → (ℕ → A) → ℕ → A → ℕ → A
put f i x k = pick (eqb k i) x (f k)
