-- The hop step, from a cursor. hop.rs 1199-1216, and 1227-1241 for the end at used
use Rattle.std.specs.Prelude.{ℕ, ◌+◌, List, not, ltb, leb, eqb}
use Rattle.rules.specs.Choice.{pick, both, either}
use Rattle.rules.specs.Words.{version_at, other_end_at, vacant_at, occupied_at, key_at}
use Rattle.rules.specs.Values.{Values, Outcome, answer_unless, plain, visited, done, unless}
use Rattle.rules.specs.Refusals.{◌▸◌, passes, damaged, stale_cursor, astray, entry_number}
use Rattle.rules.specs.Runs.{past_front}
use Rattle.rules.specs.declared.Header.{Header}

-- 6; then, where slot c is vacant: its back below used and vacant, at least c, and the slot after the back occupied or at used
unfoldable pub hop_number : List ℕ → Header → ℕ → ℕ → ℕ
hop_number l hd c back =
    passes
    ▸ (past_front (version_at l hd.used) hd.used c, stale_cursor)
    ▸ (both (vacant_at l hd.used c) (astray l hd.used back), damaged)
    ▸ (both (vacant_at l hd.used c) (ltb back c), damaged)
    ▸ (both (vacant_at l hd.used c) (not (either (occupied_at l hd.used (back + 1)) (eqb (back + 1) hd.used))), damaged)

-- the key of slot i, and the cursor after it
abbrev pub visit : List ℕ → ℕ → ℕ → Values
visit l used i = visited (key_at l used i) (i + 1)

-- at or past used: done; slot c occupied: its key; otherwise q = other_end(c) + 1: done if q = used, else slot q's key
unfoldable pub hop_answer : List ℕ → Header → ℕ → ℕ → Values
hop_answer l hd c back =
    pick (leb hd.used c) done
    (pick (occupied_at l hd.used c) (visit l hd.used c)
    (pick (eqb (back + 1) hd.used) done (visit l hd.used (back + 1))))

-- the answer in a table of the right shape with slot 0 even
unfoldable pub hop_from : List ℕ → Header → ℕ → Values
hop_from l hd c =
    let back = other_end_at l hd.used c in
    answer_unless (hop_number l hd c back) (hop_answer l hd c back)

unfoldable pub hop_rule : List ℕ → List ℕ → Header → ℕ → Outcome
hop_rule l r hd c = unless l r hd (entry_number l r hd) (plain (hop_from l hd c) hd l r)
