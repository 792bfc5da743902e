-- Calls that empty slot 1 and fill it again, round after round.
use Rattle.std.specs.Prelude.{ℕ, zero, suc, List, [], ◌∷◌}
use Rattle.rules.specs.Bench.{key}
use Rattle.history.specs.Calls.{Row, Call, insert, remove}
use Rattle.history.specs.Versions.{refilled}

-- n rounds, the row being live under the version v before the first
unfoldable pub rounds : Row → ℕ → ℕ → List Call
rounds row zero v = []
rounds row (suc n) v = remove (key 1 v) ∷ insert row.words ∷ rounds row n (refilled v)
