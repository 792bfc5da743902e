-- The slots of a table, slot 0 not counted, and the most rows ever live at once in a history.
use Rattle.std.specs.Prelude.{ℕ, ◌+◌, max, List, [], ◌∷◌, Bool, ltb}
use Rattle.rules.specs.Choice.{both, count_below}
use Rattle.rules.specs.Words.{version_at, is_even}
use Rattle.rules.specs.Runs.{odd_count}
use Rattle.history.specs.Calls.{Call}
use Rattle.history.specs.Histories.{Table, next}

-- live rows: the odd versions below used; vacant slots: the even ones from slot 1 up, those of spare slots
abbrev pub live_rows : Table → ℕ
live_rows t = odd_count (version_at t.links t.header.used) t.header.used

abbrev pub spare : (ℕ → ℕ) → ℕ → Bool
spare v i = both (ltb 0 i) (is_even (v i))

abbrev pub vacant_below : (ℕ → ℕ) → ℕ → ℕ
vacant_below v used = count_below used (spare v)

abbrev pub vacant_slots : Table → ℕ
vacant_slots t = vacant_below (version_at t.links t.header.used) t.header.used

abbrev pub slots : Table → ℕ
slots t = live_rows t + vacant_slots t

-- at the start, and after each call
abbrev pub most : Table → List Call → ℕ
most t [] = live_rows t
most t (c ∷ cs) = max (live_rows t) (most (next t c) cs)
