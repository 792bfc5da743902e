-- What is lent: the words of a slot in the link table, its row in the row table, read and changed.
-- Every reader takes used and gives zero at or past it: slots from used upward are never read. A write past the end changes nothing.
use Rattle.std.specs.Prelude.{ℕ, ◌+◌, ◌*◌, ◌/◌, ◌%◌, ◌^◌, List, Bool, length, get_or, set, take, drop, replicate, ltb, leb, eqb}
use Rattle.std.proofs.Math.Seq.{paste}
use Rattle.rules.specs.Choice.{pick, both}
use Rattle.rules.specs.declared.Key.{Key}

-- the most slots that may be lent; the link words of a slot; the words of its row
abbrev pub limit : ℕ
limit = 4096

abbrev pub link_words : ℕ
link_words = 4

abbrev pub row_words : ℕ
row_words = 8

-- the lent count, as the link table has it
abbrev pub lent_of : List ℕ → ℕ
lent_of l = length l / link_words

-- where each word of a slot stands
abbrev pub version_word : ℕ
version_word = 0

abbrev pub next_word : ℕ
next_word = 1

abbrev pub prev_word : ℕ
prev_word = 2

abbrev pub other_end_word : ℕ
other_end_word = 3

-- word w of slot i; the links with it changed
unfoldable pub link_at : List ℕ → ℕ → ℕ → ℕ → ℕ
link_at l used i w = pick (ltb i used) (get_or l (i * link_words + w) 0) 0

unfoldable pub set_link : List ℕ → ℕ → ℕ → ℕ → List ℕ
set_link l i w x = set l (i * link_words + w) x

-- version(i), next(i), prev(i), other_end(i)
abbrev pub version_at : List ℕ → ℕ → ℕ → ℕ
version_at l used i = link_at l used i version_word

abbrev pub next_at : List ℕ → ℕ → ℕ → ℕ
next_at l used i = link_at l used i next_word

abbrev pub prev_at : List ℕ → ℕ → ℕ → ℕ
prev_at l used i = link_at l used i prev_word

abbrev pub other_end_at : List ℕ → ℕ → ℕ → ℕ
other_end_at l used i = link_at l used i other_end_word

-- the links with version(i), next(i), prev(i) or other_end(i) made x
abbrev pub set_version : List ℕ → ℕ → ℕ → List ℕ
set_version l i x = set_link l i version_word x

abbrev pub set_next : List ℕ → ℕ → ℕ → List ℕ
set_next l i x = set_link l i next_word x

abbrev pub set_prev : List ℕ → ℕ → ℕ → List ℕ
set_prev l i x = set_link l i prev_word x

abbrev pub set_other_end : List ℕ → ℕ → ℕ → List ℕ
set_other_end l i x = set_link l i other_end_word x

-- slot i gets zero links; a version and zero links
abbrev pub zero_links : List ℕ → ℕ → List ℕ
zero_links l i = set_other_end (set_prev (set_next l i 0) i 0) i 0

unfoldable pub new_slot : List ℕ → ℕ → ℕ → List ℕ
new_slot l i v = zero_links (set_version l i v) i

-- row i is within the row table
abbrev pub row_within : List ℕ → ℕ → Bool
row_within r i = leb (i * row_words + row_words) (length r)

-- a zero row; row i; the rows with row i made s, which changes nothing if s is not a row
abbrev pub zero_row : List ℕ
zero_row = replicate row_words 0

unfoldable pub row_at : List ℕ → ℕ → ℕ → List ℕ
row_at r used i = pick (both (ltb i used) (row_within r i)) (take row_words (drop (i * row_words) r)) zero_row

unfoldable pub set_row : List ℕ → ℕ → List ℕ → List ℕ
set_row r i s = pick (both (eqb (length s) row_words) (row_within r i)) (paste r (i * row_words) s row_words) r

-- a version is odd in an occupied slot and even in a vacant one
abbrev pub is_odd : ℕ → Bool
is_odd v = eqb (v % 2) 1

abbrev pub is_even : ℕ → Bool
is_even v = eqb (v % 2) 0

-- slot i is in use, and vacant; in use, and occupied: as its version tells
abbrev pub vacant_by : (ℕ → ℕ) → ℕ → ℕ → Bool
vacant_by versions used i = both (ltb i used) (is_even (versions i))

abbrev pub occupied_by : (ℕ → ℕ) → ℕ → ℕ → Bool
occupied_by versions used i = both (ltb i used) (is_odd (versions i))

unfoldable pub vacant_at : List ℕ → ℕ → ℕ → Bool
vacant_at l used i = vacant_by (version_at l used) used i

unfoldable pub occupied_at : List ℕ → ℕ → ℕ → Bool
occupied_at l used i = occupied_by (version_at l used) used i

-- a version with its lowest bit set
abbrev pub with_bit : ℕ → ℕ
with_bit v = v / 2 * 2 + 1

-- one more in 32 bits: a version rises so, and wraps from 4,294,967,295 to 0
abbrev pub rise : ℕ → ℕ
rise v = (v + 1) % 2 ^ 32

-- the key of slot i as it stands
abbrev pub key_at : List ℕ → ℕ → ℕ → Key
key_at l used i = record { index = i; version = version_at l used i }
