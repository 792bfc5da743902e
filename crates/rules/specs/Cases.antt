-- Tried on the bench: document 01's cases A to L as a single table, each step beside what it must reply.
-- proofs/Bench has the one statement. Keys as (slot, version); every row put in has a word 0 that is not 0.
use Rattle.std.specs.Prelude.{List, [], ◌∷◌, ◌++◌}
use Rattle.rules.specs.Words.{zero_row}
use Rattle.rules.specs.Refusals.{full, stale_cursor}
use Rattle.rules.specs.Bench.{Step, Reply, Case, start, insert, remove, clear, hop, rebuild, write_versions, see_used, see_live, see_version, see_next, see_other_end, see_links, see_rows, buoy, shows, hands_out, takes, meets, ended, turned_down, word, slot, old, written, on}

abbrev three_in : List (Step × Reply)
three_in = (start, ended) ∷ (insert 1, hands_out 1 1) ∷ (insert 2, hands_out 2 1) ∷ (insert 3, hands_out 3 1) ∷ []

abbrev five_in : List (Step × Reply)
five_in = three_in ++ ((insert 4, hands_out 4 1) ∷ (insert 5, hands_out 5 1) ∷ [])

abbrev pub cases : List Case
cases =
    -- A three in: (1,1) (2,1) (3,1), used 4
    on 16
    (three_in
    ++ ((see_used, word 4)
    ∷ (see_live, word 3)
    ∷ (see_links, shows (slot 0 0 0 0 ++ slot 1 0 0 0 ++ slot 1 0 0 0 ++ slot 1 0 0 0))
    ∷ (see_rows, shows (zero_row ++ buoy 1 ++ buoy 2 ++ buoy 3))
    ∷ []))
    -- B then remove (2,1), insert: (2,3)
    ∷ on 16
    (three_in
    ++ ((remove 2 1, takes 2 1 (buoy 2))
    ∷ (see_live, word 2)
    ∷ (see_rows, shows (zero_row ++ buoy 1 ++ zero_row ++ buoy 3))
    ∷ (insert 4, hands_out 2 3)
    ∷ []))
    -- C three in, remove slot 1: other_end(0) = 1, next(0) = 0; insert: (1,3)
    ∷ on 16
    (three_in
    ++ ((remove 1 1, takes 1 1 (buoy 1))
    ∷ (see_other_end 0, word 1)
    ∷ (see_next 0, word 0)
    ∷ (insert 4, hands_out 1 3)
    ∷ []))
    -- D three in, remove 2 then 1; inserts: (2,3) (1,3) (4,1)
    ∷ on 16
    (three_in
    ++ ((remove 2 1, takes 2 1 (buoy 2))
    ∷ (remove 1 1, takes 1 1 (buoy 1))
    ∷ (insert 4, hands_out 2 3)
    ∷ (insert 5, hands_out 1 3)
    ∷ (insert 6, hands_out 4 1)
    ∷ []))
    -- E three in, clear; inserts: (3,3) (2,3) (1,3) (4,1)
    ∷ on 16
    (three_in
    ++ ((clear, ended)
    ∷ (insert 4, hands_out 3 3)
    ∷ (insert 5, hands_out 2 3)
    ∷ (insert 6, hands_out 1 3)
    ∷ (insert 7, hands_out 4 1)
    ∷ []))
    -- F five in, remove 2, 4, 3; inserts: (4,3) (3,3) (2,3) (6,1)
    ∷ on 16
    (five_in
    ++ ((remove 2 1, takes 2 1 (buoy 2))
    ∷ (remove 4 1, takes 4 1 (buoy 4))
    ∷ (remove 3 1, takes 3 1 (buoy 3))
    ∷ (insert 6, hands_out 4 3)
    ∷ (insert 7, hands_out 3 3)
    ∷ (insert 8, hands_out 2 3)
    ∷ (insert 9, hands_out 6 1)
    ∷ []))
    -- G five in, remove 4, 2; inserts: (4,3) (2,3)
    ∷ on 16
    (five_in
    ++ ((remove 4 1, takes 4 1 (buoy 4))
    ∷ (remove 2 1, takes 2 1 (buoy 2))
    ∷ (insert 6, hands_out 4 3)
    ∷ (insert 7, hands_out 2 3)
    ∷ []))
    -- H five in, remove 3, 2; inserts: (3,3) (2,3)
    ∷ on 16
    (five_in
    ++ ((remove 3 1, takes 3 1 (buoy 3))
    ∷ (remove 2 1, takes 2 1 (buoy 2))
    ∷ (insert 6, hands_out 3 3)
    ∷ (insert 7, hands_out 2 3)
    ∷ []))
    -- I five in, remove 2, 3; walk shows 1, 4, 5; cursor 3 gives 6
    ∷ on 16
    (five_in
    ++ ((remove 2 1, takes 2 1 (buoy 2))
    ∷ (remove 3 1, takes 3 1 (buoy 3))
    ∷ (hop 0, meets 1 1 2)
    ∷ (hop 2, meets 4 1 5)
    ∷ (hop 5, meets 5 1 6)
    ∷ (hop 6, ended)
    ∷ (hop 3, turned_down stale_cursor)
    ∷ []))
    -- J rebuilt slot 1 at version 4,294,967,295, removed: version 0; insert: (1,1)
    ∷ on 16
    ((write_versions (0 ∷ 4294967295 ∷ []), written)
    ∷ (rebuild (0 ∷ 1 ∷ []), ended)
    ∷ (remove 1 4294967295, takes 1 4294967295 old)
    ∷ (see_version 1, word 0)
    ∷ (insert 1, hands_out 1 1)
    ∷ [])
    -- K lent 1: insert gives 5; lent 2: one insert, then 5
    ∷ on 1 ((start, ended) ∷ (insert 1, turned_down full) ∷ [])
    ∷ on 2 ((start, ended) ∷ (insert 1, hands_out 1 1) ∷ (insert 2, turned_down full) ∷ [])
    -- L rebuild of six slots, versions 0 1 2 1 1 1, lent 8; remove (4,1); inserts: (2,3) (4,3) (6,1)
    ∷ on 8
    ((write_versions (0 ∷ 1 ∷ 2 ∷ 1 ∷ 1 ∷ 1 ∷ []), written)
    ∷ (rebuild (0 ∷ 1 ∷ 0 ∷ 1 ∷ 1 ∷ 1 ∷ []), ended)
    ∷ (see_used, word 6)
    ∷ (see_live, word 4)
    ∷ (see_links, shows (slot 0 2 2 0 ++ slot 1 0 0 0 ++ slot 2 0 0 2 ++ slot 1 0 0 0 ++ slot 1 0 0 0 ++ slot 1 0 0 0))
    ∷ (see_rows, shows (zero_row ++ old ++ zero_row ++ old ++ old ++ old))
    ∷ (remove 4 1, takes 4 1 old)
    ∷ (insert 1, hands_out 2 3)
    ∷ (insert 2, hands_out 4 3)
    ∷ (insert 3, hands_out 6 1)
    ∷ [])
    ∷ []
