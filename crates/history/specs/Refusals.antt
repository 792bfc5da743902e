-- What a refusal may say, whatever the words in the tables; and what the number of an answer tells in a history.
use Rattle.std.specs.Prelude.{ℕ, List, [], ◌∷◌, ◌≡◌, ◌≢◌}
use Rattle.rules.specs.Words.{lent_of, zero_row}
use Rattle.rules.specs.Refusals.{shape, damaged, even_version, not_live, full, stale_cursor, wrong_presence, zero_occupied}
use Rattle.runs.specs.Tables.{NoneVacant}
use Rattle.history.specs.Calls.{start, rebuild, number, look, hop, check, room, Call, begin, ask, insert, remove, write, replace, drain, clear, retain}
use Rattle.history.specs.Histories.{Table, answer}

-- document 01's column "Given by": 1 by all, 2 by all but start and rebuild, 3 and 4 by key calls, 5, 6, 7 and 8 by one call each
abbrev pub key_numbers : List ℕ
key_numbers = shape ∷ damaged ∷ even_version ∷ not_live ∷ []

abbrev pub given_by : Call → List ℕ
given_by (begin start) = shape ∷ []
given_by (begin (rebuild bytes)) = shape ∷ wrong_presence ∷ zero_occupied ∷ []
given_by (ask (number k)) = key_numbers
given_by (ask (look k)) = key_numbers
given_by (ask (hop c)) = shape ∷ damaged ∷ stale_cursor ∷ []
given_by (ask check) = shape ∷ damaged ∷ []
given_by (ask room) = shape ∷ damaged ∷ []
given_by (insert side) = shape ∷ damaged ∷ full ∷ []
given_by (remove k) = key_numbers
given_by (write k row) = key_numbers
given_by (replace k side) = key_numbers
given_by drain = shape ∷ damaged ∷ []
given_by clear = shape ∷ damaged ∷ []
given_by (retain bytes) = shape ∷ damaged ∷ []

-- what stands for a row in a refusal: zero by value; of a look, to read or to write through, an empty part
abbrev pub no_row : Call → List ℕ
no_row (begin b) = zero_row
no_row (ask (number k)) = zero_row
no_row (ask (look k)) = []
no_row (ask (hop c)) = zero_row
no_row (ask check) = zero_row
no_row (ask room) = zero_row
no_row (insert side) = zero_row
no_row (remove k) = zero_row
no_row (write k row) = []
no_row (replace k side) = zero_row
no_row drain = zero_row
no_row clear = zero_row
no_row (retain bytes) = zero_row

-- every slot lent is in use, and nothing but slot 0 is vacant
abbrev pub Full : Table → Type 0
Full t = (t.header.used ≡ lent_of t.links) × NoneVacant t.links t.header.used

-- on a sound table: 2 is not given; 5 to an insert alone, and where the table is full
pub record Numbers (t : Table) (c : Call) : Type 0 where
  pub never_2 : (answer t c).number ≢ damaged
  pub full_only : (answer t c).number ≡ full → ((side : List ℕ) × (c ≡ insert side)) × Full t
