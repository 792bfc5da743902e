-- What is said in a turn: a step of a walk always says something, and no reply is longer than the longest. Assumes nothing.
use Prim.Native.Nat.{ℕ, ◌+◌, ◌≤◌, ◌<◌}
use mathlib.Core.List.{List}
use mathlib.Core.Path.{refl}
use native.Mathlib.Omega.{arith}
use lib.ListN.{length}
use lib.Dec.{ltb}
use Rattle.rules.specs.Words.{zero_row}
use Rattle.rules.specs.Values.{Kind, gives, ends, refuses, Values, Outcome}
use Rattle.rules.specs.Refusals.{broken_stream}
use Rattle.rules.specs.Access.{look_row_rule}
use Rattle.rules.proofs.Rows.{look_row_length, remove_row_length}
use Rattle.rules.proofs.Choice.{by_pick}
use Rattle.history.specs.Calls.{ask, hop, insert, clear}
use Rattle.history.specs.Histories.{outcome}
use Rattle.wire.specs.declared.Command.{Command}
use Rattle.wire.specs.declared.Saying.{Saying}
use Rattle.wire.specs.Commands.{command_of, body_length}
use Rattle.wire.specs.Words.{bytes_of, key_bytes}
use Rattle.wire.specs.Replies.{saying_bytes, longest}
use Rattle.wire.proofs.Lengths.{saying_length}
use Rattle.commands.specs.Turns.{Run, Turned, turned, table_of, key_of, row_of, said_by, say_key, say_row, calm, command_turn, walk_by, walk_turn}
use Rattle.commands.specs.declared.Phase.{Phase}
use Rattle.stream.specs.Feeding.{reply_of}
use Rattle.hearing.specs.Heard.{gathered, with_byte, heard_in, heard, ended_in, ended_of}

-- of an answer something is said, if something is said where it gives
said_speaks : (k : Kind) (x : Saying) (n : ℕ) (row : List ℕ) → 0 < length (saying_bytes x row) → 0 < length (saying_bytes (said_by k x n) row)
unfolding saying_bytes
said_speaks gives x n row h = h
said_speaks ends x n row h = omega arith
said_speaks refuses x n row h = omega arith

key_speaks : (v : Values) (row : List ℕ) → 0 < length (saying_bytes (say_key v) row)
unfolding saying_bytes
key_speaks v row = said_speaks v.kind (Saying.WithKey v.key) v.number row (omega arith)

row_speaks : (v : Values) (row : List ℕ) → 0 < length (saying_bytes (say_row v) row)
unfolding saying_bytes
row_speaks v row = said_speaks v.kind (Saying.WithRow v.key) v.number row (omega arith)

walk_by_speaks : (s : Run) (o : Outcome) (k : Kind) → 0 < length (reply_of (walk_by s o k))
walk_by_speaks s o gives = row_speaks (look_row_rule s.links s.rows s.stream.header o.answer.key).answer _
walk_by_speaks s o ends = key_speaks o.answer _
walk_by_speaks s o refuses = key_speaks o.answer _

-- no step of a walk is silent
pub walk_speaks : (s : Run) (c : ℕ) → 0 < length (reply_of (walk_turn s c))
walk_speaks s c =
    let o = outcome (table_of s) (ask (hop c)) in
    walk_by_speaks s o o.answer.kind

-- with a key alone the row is not said
key_fits : (v : Values) (row : List ℕ) → length (saying_bytes (say_key v) row) ≤ longest
unfolding saying_bytes key_bytes bytes_of
key_fits v row = by v.kind
  where
    by : (k : Kind) → length (saying_bytes (said_by k (Saying.WithKey v.key) v.number) row) ≤ longest
    by gives = omega arith
    by ends = omega arith
    by refuses = omega arith

-- a row that is said has eight words, so the output has room for any turn's reply where it has room for the longest
abbrev pub Fits : Turned → Type 0
Fits t = length (reply_of t) ≤ longest

calm_fits : (s : Run) (p : Phase) (x : Saying) → Fits (calm s p x)
calm_fits s p x = saying_length x zero_row refl

command_fits : (k : Command) (s : Run) → Fits (command_turn k s)
command_fits Command.Insert s = key_fits (outcome (table_of s) (insert (row_of s))).answer _
command_fits Command.Remove s = saying_length _ _ (remove_row_length s.links s.rows s.stream.header (key_of s))
command_fits Command.Look s = saying_length _ _ (look_row_length s.links s.rows s.stream.header (key_of s))
command_fits Command.Clear s = key_fits (outcome (table_of s) clear).answer _
command_fits Command.Walk s = calm_fits s (Phase.Walking 0) Saying.Silent
command_fits Command.Unknown s = calm_fits s Phase.Ended (Saying.Refused broken_stream)

gathered_fits : (k : Command) (got : ℕ) (s : Run) → Fits (gathered k got s)
gathered_fits k got s =
    by_pick Fits (ltb got (body_length k)) _ _ (λ _. calm_fits s (Phase.Gathering k got) Saying.Silent) (λ _. command_fits k s)

pub heard_fits : (s : Run) (b : ℕ) → Fits (heard s b)
unfolding heard
heard_fits s b = by s.stream.phase
  where
    by : (p : Phase) → Fits (heard_in p s b)
    by Phase.Between = gathered_fits (command_of b) 0 s
    by (Phase.Gathering k got) = gathered_fits k (got + 1) (with_byte s got b)
    by (Phase.Walking c) = calm_fits s (Phase.Walking c) Saying.Silent
    by Phase.Ended = calm_fits s Phase.Ended Saying.Silent

pub walk_fits : (s : Run) (c : ℕ) → Fits (walk_turn s c)
walk_fits s c =
    let o = outcome (table_of s) (ask (hop c)) in
    by o o.answer.kind
  where
    by : (o : Outcome) (k : Kind) → Fits (walk_by s o k)
    by o gives = saying_length _ _ (look_row_length s.links s.rows s.stream.header o.answer.key)
    by o ends = calm_fits s Phase.Between (say_key o.answer)
    by o refuses = calm_fits s Phase.Between (say_key o.answer)

pub ended_fits : (s : Run) → Fits (ended_of s)
ended_fits s = by s.stream.phase
  where
    by : (p : Phase) → Fits (turned (ended_in p s.stream) s.links s.rows)
    by Phase.Between = calm_fits s Phase.Between Saying.Silent
    by (Phase.Gathering k got) = calm_fits s Phase.Ended (Saying.Refused broken_stream)
    by (Phase.Walking c) = calm_fits s (Phase.Walking c) Saying.Silent
    by Phase.Ended = calm_fits s Phase.Ended Saying.Silent
