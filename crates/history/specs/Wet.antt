-- A damaged table on four slots: three rows are live, slot 0's row is not zero, and prev(0) leads past the slots in use. Calls that are
-- refused on it, the answer beside each call, and what there is to say of them. proofs/Tried has the one statement.
use Rattle.std.specs.Prelude.{List, [], ◌∷◌, ◌++◌, map, ◌≡◌}
use Rattle.rules.specs.Words.{zero_row}
use Rattle.rules.specs.Values.{Values, refused}
use Rattle.rules.specs.Refusals.{shape, damaged, even_version, not_live, wrong_presence}
use Rattle.rules.specs.Bench.{buoy, key}
use Rattle.history.specs.Calls.{rebuild, look, check, Call, begin, ask, insert, remove, replace, clear, retain}
use Rattle.history.specs.Histories.{Table, outcome, answer, next}

abbrev pub wet : Table
wet =
    record {
      links = (0 ∷ 0 ∷ 9 ∷ 0 ∷ []) ++ (1 ∷ 0 ∷ 0 ∷ 0 ∷ []) ++ (1 ∷ 0 ∷ 0 ∷ 0 ∷ []) ++ (1 ∷ 0 ∷ 0 ∷ 0 ∷ []);
      rows = buoy 9 ++ buoy 1 ++ buoy 2 ++ buoy 3;
      header = record { used = 4; live = 3 };
    }

abbrev pub turned : List (Call × Values)
turned =
    (remove (key 2 1), refused damaged)
    ∷ (remove (key 2 2), refused even_version)
    ∷ (ask (look (key 2 3)), refused not_live)
    ∷ (replace (key 2 3) (buoy 4), refused not_live)
    ∷ (insert (1 ∷ []), refused shape)
    ∷ (ask check, refused damaged)
    ∷ (clear, refused damaged)
    ∷ (retain (0 ∷ 0 ∷ 0 ∷ 0 ∷ []), refused damaged)
    ∷ (begin (rebuild (0 ∷ 0 ∷ [])), refused wrong_presence)
    ∷ []

abbrev calls : List Call
calls = map (λ (x : Call × Values). x.0) turned

pub record Kept : Type 0 where
  pub answered : map (answer wet) calls ≡ map (λ (x : Call × Values). x.1) turned
  -- tables and header as they were, after each
  pub unchanged : map (next wet) calls ≡ map (λ (c : Call). wet) calls
  -- no row is told; the look's part is empty
  pub rows : map (λ (c : Call). (outcome wet c).row) calls ≡
      zero_row ∷ zero_row ∷ [] ∷ zero_row ∷ zero_row ∷ zero_row ∷ zero_row ∷ zero_row ∷ zero_row ∷ []
