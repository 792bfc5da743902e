-- Row access: the number of a key, the part of the rows that a look hands back, the row by value, and replace.
use Rattle.std.specs.Prelude.{ℕ, ◌+◌, ◌*◌, List, [], ◌≡◌, length, eqb}
use Rattle.std.specs.Borrow.{Bor, MutBor}
use denote.MutBor.{as_bor}
use Rattle.rules.specs.Choice.{pick}
use Rattle.rules.specs.Words.{row_words, row_at, set_row}
use Rattle.rules.specs.Values.{Outcome, plain, keyed, done, unless}
use Rattle.rules.specs.Refusals.{entry_number, side_entry_number, live_number}
use Rattle.rules.specs.declared.Header.{Header}
use Rattle.rules.specs.declared.Key.{Key}

-- the number of a key, 0 for a live one. hop.rs 343-348
unfoldable pub key_number : List ℕ → List ℕ → Header → Key → ℕ
key_number l r hd key = live_number (entry_number l r hd) l hd key

-- the words of the part that a look at a key hands back: the row of a live key, else nothing. hop.rs 688-696 and 734-742
unfoldable pub look_rule : List ℕ → List ℕ → Header → Key → List ℕ
look_rule l r hd key = pick (eqb (key_number l r hd key) 0) (row_at r hd.used key.index) []

-- the word of the row table that the part starts at: eight times the slot index, and 0 for an empty part
unfoldable pub look_start : List ℕ → List ℕ → Header → Key → ℕ
look_start l r hd key = pick (eqb (key_number l r hd key) 0) (key.index * row_words) 0

-- the bytes of a word; part points at word w of what whole points at
abbrev pub word_bytes : ℕ
word_bytes = 4

abbrev pub StartsAt : Bor (List ℕ) → Bor (List ℕ) → ℕ → Type 0
StartsAt part whole w = part.ref_ptr ≡ (whole.ref_ptr.0, w * word_bytes + whole.ref_ptr.1)

-- what a look promises of its part: the words, where they lie in the row table
pub record RowPart (l : List ℕ) (rows : Bor (List ℕ)) (hd : Header) (key : Key) (part : Bor (List ℕ)) : Type 0 where
  pub words : part.now ≡ look_rule l rows.now hd key
  pub place : StartsAt part rows (look_start l rows.now hd key)

-- the same of a part that is lent to write through
abbrev pub RowPartMut : List ℕ → MutBor (List ℕ) → Header → Key → MutBor (List ℕ) → Type 0
RowPartMut l rows hd key part = RowPart l (as_bor rows) hd key (as_bor part)

-- a look by value, for who cannot be handed a part: the key and its row
unfoldable pub look_row_rule : List ℕ → List ℕ → Header → Key → Outcome
look_row_rule l r hd key =
    unless l r hd (key_number l r hd key)
    (record { answer = keyed key; row = row_at r hd.used key.index; header = hd; links = l; rows = r })

-- replace copies eight words in from a side buffer. hop.rs has a write through get_mut, 734-742
unfoldable pub replace_number : List ℕ → List ℕ → Header → Key → List ℕ → ℕ
replace_number l r hd key side = live_number (side_entry_number l r hd (length side) row_words) l hd key

unfoldable pub replace_rule : List ℕ → List ℕ → Header → Key → List ℕ → Outcome
replace_rule l r hd key side =
    unless l r hd (replace_number l r hd key side) (plain done hd l (set_row r key.index side))
