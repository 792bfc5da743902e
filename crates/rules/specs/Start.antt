-- Start and room.
use Rattle.std.specs.Prelude.{ℕ, ◌-◌, List, length}
use Rattle.rules.specs.Words.{lent_of, new_slot, set_row, zero_row}
use Rattle.rules.specs.Headers.{fresh}
use Rattle.rules.specs.Values.{Outcome, plain, done, counted, unless}
use Rattle.rules.specs.Refusals.{lent_number, entry_number}
use Rattle.rules.specs.declared.Header.{Header}

-- start: slot 0 gets four zero link words and a zero row; used 1, live 0; nothing else is written.
-- Any old header is accepted: 1 looks at the lent buffers alone. hop.rs 221-240
unfoldable pub start_rule : List ℕ → List ℕ → Header → Outcome
start_rule l r hd =
    unless l r hd (lent_number (length l) (length r)) (plain done fresh (new_slot l 0 0) (set_row r 0 zero_row))

-- room: the number of slots lent less the number live. It has no line in hop.rs
unfoldable pub room_rule : List ℕ → List ℕ → Header → Outcome
room_rule l r hd = unless l r hd (entry_number l r hd) (plain (counted (lent_of l - hd.live)) hd l r)
