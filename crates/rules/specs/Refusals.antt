-- The numbers given when a call is turned down: by name, and as chains in document 01's order.
-- A chain is made of segments; one that does not begin it takes the number so far. The first test that holds gives the number.
-- What a step asks of its links may be a chain of its own, looked at where the one before it gave none.
use Rattle.std.specs.Prelude.{ℕ, ◌-◌, ◌/◌, ◌%◌, List, Bool, Result, Ok, Err, ⊤, not, length, ltb, eqb}
use Rattle.rules.specs.Choice.{pick, both}
use Rattle.rules.specs.Words.{limit, link_words, row_words, lent_of, is_odd, is_even, version_at, vacant_at}
use Rattle.rules.specs.declared.Header.{Header}
use Rattle.rules.specs.declared.Key.{Key}
use Rattle.rules.specs.declared.Refusal.{Refusal}

abbrev pub shape : ℕ
shape = 1

abbrev pub damaged : ℕ
damaged = 2

abbrev pub even_version : ℕ
even_version = 3

abbrev pub not_live : ℕ
not_live = 4

abbrev pub full : ℕ
full = 5

abbrev pub stale_cursor : ℕ
stale_cursor = 6

abbrev pub wrong_presence : ℕ
wrong_presence = 7

abbrev pub zero_occupied : ℕ
zero_occupied = 8

-- given by the program alone
abbrev pub broken_stream : ℕ
broken_stream = 9

-- the number of each refusal
abbrev pub number_of : Refusal → ℕ
number_of Refusal.Shape = shape
number_of Refusal.Damaged = damaged
number_of Refusal.EvenVersion = even_version
number_of Refusal.NotLive = not_live
number_of Refusal.Full = full
number_of Refusal.StaleCursor = stale_cursor
number_of Refusal.WrongPresence = wrong_presence
number_of Refusal.ZeroOccupied = zero_occupied
number_of Refusal.BrokenStream = broken_stream

-- what a chain starts with: no number
abbrev pub passes : ℕ
passes = 0

-- the number that tests have come to: none where they passed, else that of their refusal
abbrev pub number_in : Result ⊤ Refusal → ℕ
number_in (Ok _) = passes
number_in (Err e) = number_of e

-- one more test: the number that there is stays; where there is none, that of the test if it holds
infixl 20 ◌▸◌
unfoldable pub ◌▸◌ : ℕ → Bool × ℕ → ℕ
n ▸ c = pick (eqb n 0) (pick c.0 c.1 0) n

-- 1: link words not 4 per slot, row words not 8, slot counts differ, lent count 0 or over 4,096
unfoldable pub lent_number : ℕ → ℕ → ℕ
lent_number links rows =
    passes
    ▸ (not (eqb (links % link_words) 0), shape)
    ▸ (not (eqb (rows % row_words) 0), shape)
    ▸ (not (eqb (links / link_words) (rows / row_words)), shape)
    ▸ (eqb (links / link_words) 0, shape)
    ▸ (ltb limit (links / link_words), shape)

-- 1: used 0 or over lent, live over used − 1
unfoldable pub header_number : ℕ → ℕ → Header → ℕ
header_number n lent hd =
    n
    ▸ (eqb hd.used 0, shape)
    ▸ (ltb lent hd.used, shape)
    ▸ (ltb (hd.used - 1) hd.live, shape)

-- all of 1 but the side buffer: what is lent, and the header whole
unfoldable pub shape_number : List ℕ → List ℕ → Header → ℕ
shape_number l r hd = header_number (lent_number (length l) (length r)) (lent_of l) hd

-- 1: a side buffer of another length than is asked for
unfoldable pub side_number : ℕ → ℕ → ℕ → ℕ
side_number n side asked = n ▸ (not (eqb side asked), shape)

-- 2: slot 0 odd
unfoldable pub zero_number : ℕ → List ℕ → Header → ℕ
zero_number n l hd = n ▸ (is_odd (version_at l hd.used 0), damaged)

-- a key is live when the index is below used and the version is odd and equals the slot's
abbrev pub live_by : (ℕ → ℕ) → ℕ → Key → Bool
live_by versions used key =
    both (ltb key.index used) (both (is_odd key.version) (eqb (versions key.index) key.version))

unfoldable pub live_key : List ℕ → Header → Key → Bool
live_key l hd key = live_by (version_at l hd.used) hd.used key

-- 3: key with an even version; 4: key not live
unfoldable pub live_number : ℕ → List ℕ → Header → Key → ℕ
live_number n l hd key =
    n
    ▸ (is_even key.version, even_version)
    ▸ (not (live_key l hd key), not_live)

-- what a call without a side buffer tests before anything else, and what one with a side buffer tests
unfoldable pub entry_number : List ℕ → List ℕ → Header → ℕ
entry_number l r hd = zero_number (shape_number l r hd) l hd

unfoldable pub side_entry_number : List ℕ → List ℕ → Header → ℕ → ℕ → ℕ
side_entry_number l r hd side asked = zero_number (side_number (shape_number l r hd) side asked) l hd

-- a link goes astray: it is not below used, or its slot is not vacant
abbrev pub astray : List ℕ → ℕ → ℕ → Bool
astray l used i = not (vacant_at l used i)
