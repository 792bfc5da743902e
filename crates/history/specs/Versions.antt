-- What becomes of a slot's version when its row is removed and the next insert there fills it again, so many times over.
use Rattle.std.specs.Prelude.{ℕ, zero, suc}
use Rattle.rules.specs.Words.{with_bit, rise}

abbrev pub refilled : ℕ → ℕ
refilled v = with_bit (rise v)

unfoldable pub refilled_times : ℕ → ℕ → ℕ
refilled_times zero v = v
refilled_times (suc n) v = refilled (refilled_times n v)

-- after so many removals, half the numbers of 32 bits, an odd version comes round
abbrev pub round : ℕ
round = 2147483648
