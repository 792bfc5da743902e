-- The fronts of runs in rising order, as the versions tell them. Slot 0, a front of its own, is left out.
use Rattle.std.specs.Prelude.{ℕ, zero, suc, List, [], ◌∷◌, ◌++◌, ltb}
use Rattle.rules.specs.Choice.{pick, both}
use Rattle.rules.specs.Runs.{is_front}

-- those below slot k; all of them
unfoldable pub fronts_below : (ℕ → ℕ) → ℕ → ℕ → List ℕ
fronts_below v used zero = []
fronts_below v used (suc k) = pick (both (is_front v used k) (ltb 0 k)) (fronts_below v used k ++ k ∷ []) (fronts_below v used k)

abbrev pub rising : (ℕ → ℕ) → ℕ → List ℕ
rising v used = fronts_below v used used
