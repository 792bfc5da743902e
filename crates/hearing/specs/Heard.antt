-- What one byte does: it is a kind, or a byte of a body. The last byte of a body, or a kind without one, makes the command whole.
use Rattle.std.specs.Prelude.{ℕ, ◌+◌, Bool, true, false, set, replicate, ltb, leb}
use Rattle.rules.specs.Choice.{pick, both}
use Rattle.rules.specs.Refusals.{broken_stream}
use Rattle.rules.specs.declared.Header.{Header}
use Rattle.wire.specs.Commands.{body_bytes, command_of, body_length}
use Rattle.wire.specs.declared.Command.{Command}
use Rattle.wire.specs.declared.Saying.{Saying}
use Rattle.commands.specs.Turns.{Run, Turned, turned, calmly, calm, command_turn}
use Rattle.commands.specs.declared.Phase.{Phase}
use Rattle.commands.specs.declared.Stream.{Stream}
use Rattle.commands.specs.declared.Turn.{Turn}

-- a command of whose body so many bytes have come
abbrev pub gathered : Command → ℕ → Run → Turned
gathered k got s = pick (ltb got (body_length k)) (calm s (Phase.Gathering k got) Saying.Silent) (command_turn k s)

-- the run with byte i of the body
abbrev pub with_byte : Run → ℕ → ℕ → Run
with_byte s i b =
    let x = s.stream in
    record { links = s.links; rows = s.rows; stream = record { header = x.header; phase = x.phase; body = set x.body i b } }

-- by the phase; in a walk, and after the end, no byte is heard
abbrev pub heard_in : Phase → Run → ℕ → Turned
heard_in Phase.Between s b = gathered (command_of b) 0 s
heard_in (Phase.Gathering k got) s b = gathered k (got + 1) (with_byte s got b)
heard_in (Phase.Walking c) s b = calm s (Phase.Walking c) Saying.Silent
heard_in Phase.Ended s b = calm s Phase.Ended Saying.Silent

unfoldable pub heard : Run → ℕ → Turned
heard s b = heard_in s.stream.phase s b

-- a walk is under way, and its cursor; 0 where none is
abbrev pub walks_in : Phase → Bool
walks_in Phase.Between = false
walks_in (Phase.Gathering k got) = false
walks_in (Phase.Walking c) = true
walks_in Phase.Ended = false

abbrev pub cursor_in : Phase → ℕ
cursor_in Phase.Between = 0
cursor_in (Phase.Gathering k got) = 0
cursor_in (Phase.Walking c) = c
cursor_in Phase.Ended = 0

-- the end of the input: a cut body replies 132 with 9 and ends the run
abbrev pub ended_in : Phase → Stream → Turn
ended_in Phase.Between x = calmly x Phase.Between Saying.Silent
ended_in (Phase.Gathering k got) x = calmly x Phase.Ended (Saying.Refused broken_stream)
ended_in (Phase.Walking c) x = calmly x (Phase.Walking c) Saying.Silent
ended_in Phase.Ended x = calmly x Phase.Ended Saying.Silent

-- the end of the input for a run
abbrev pub ended_of : Run → Turned
ended_of s = turned (ended_in s.stream.phase s.stream) s.links s.rows

-- before the first byte, with the header that start or rebuild has handed back
abbrev pub opened : Header → Stream
opened hd = record { header = hd; phase = Phase.Between; body = replicate body_bytes 0 }

-- a state that some bytes could have left, by its own numbers: a body has a byte to come, and a walk stands after a slot in use that is not
-- slot 0. At its start no walk is left: a piece that hears its kind has room for its first step
abbrev pub possible_in : Phase → Header → Bool
possible_in Phase.Between hd = true
possible_in (Phase.Gathering k got) hd = ltb got (body_length k)
possible_in (Phase.Walking c) hd = both (leb 2 c) (leb c hd.used)
possible_in Phase.Ended hd = true

unfoldable pub possible : Stream → Bool
possible x = possible_in x.phase x.header
