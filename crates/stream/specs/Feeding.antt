-- A piece of the input, fed: turn after turn, while there is a byte to hear or a walk to go on with, and room for any reply.
use Rattle.std.specs.Prelude.{ℕ, ◌+◌, List, Bool, Result, Ok, Err, true, false, not, length, get_or, eqb, ltb}
use Rattle.rules.specs.Choice.{pick, both}
use Rattle.rules.specs.Refusals.{◌▸◌, shape, number_of, shape_number}
use Rattle.rules.specs.declared.Refusal.{Refusal}
use Rattle.wire.specs.Replies.{saying_bytes, longest, fits, replied, replied_to}
use Rattle.commands.specs.Turns.{Run, Turned, run_of, walk_turn}
use Rattle.commands.specs.declared.Phase.{Phase}
use Rattle.commands.specs.declared.Stream.{Stream}
use Rattle.stream.specs.declared.Fed.{Fed}
use Rattle.stream.specs.declared.feeding.Progress.{Progress}
use Rattle.stream.specs.Repeats.{while}
use Rattle.hearing.specs.Heard.{heard, ended_of, possible}

-- how far it is: the run, the bytes of the piece taken, the output, and the bytes of it written
pub record Feeding : Type 0 where
  pub run : Run
  pub taken : ℕ
  pub out : List ℕ
  pub written : ℕ

abbrev pub phase_of : Feeding → Phase
phase_of f = f.run.stream.phase

-- the feeding that the code's Progress stands for beside tables and output
abbrev pub feeding : Progress → List ℕ → List ℕ → List ℕ → Feeding
feeding x l r out = record { run = record { links = l; rows = r; stream = x.stream }; taken = x.taken; out = out; written = x.written }

-- the reply of a turn, in bytes
abbrev pub reply_of : Turned → List ℕ
reply_of t = saying_bytes t.saying t.row

-- after a turn: its reply follows what is written
abbrev pub following : ℕ → List ℕ → ℕ → Turned → Feeding
following taken out written t =
    let reply = reply_of t in
    record { run = t.run; taken = taken; out = replied out written reply; written = replied_to out written reply }

-- the next byte of the piece is heard; a step of the walk that is under way
abbrev pub heard_once : List ℕ → Feeding → Feeding
heard_once input f = following (f.taken + 1) f.out f.written (heard f.run (get_or input f.taken 0))

abbrev pub walked_once : ℕ → Feeding → Feeding
walked_once c f = following f.taken f.out f.written (walk_turn f.run c)

abbrev pub fed_in : Phase → List ℕ → Feeding → Feeding
fed_in Phase.Between input f = heard_once input f
fed_in (Phase.Gathering k got) input f = heard_once input f
fed_in (Phase.Walking c) input f = walked_once c f
fed_in Phase.Ended input f = heard_once input f

unfoldable pub fed_once : List ℕ → Feeding → Feeding
fed_once input f = fed_in (phase_of f) input f

-- something is to be done: a walk to go on with, or a byte to hear, and never after the end
abbrev pub waits_in : Phase → Bool → Bool
waits_in Phase.Between more = more
waits_in (Phase.Gathering k got) more = more
waits_in (Phase.Walking c) more = true
waits_in Phase.Ended more = false

-- the same of a piece of so many bytes, for the code's Progress and for a feeding
abbrev pub waiting : ℕ → Progress → Bool
waiting n x = waits_in x.stream.phase (ltb x.taken n)

unfoldable pub waits : ℕ → Feeding → Bool
waits n f = waits_in (phase_of f) (ltb f.taken n)

unfoldable pub going : ℕ → Feeding → Bool
going n f = both (fits (length f.out) f.written) (waits n f)

-- each turn takes a byte or writes one, so no more turns are to come than there are bytes in the piece and in the output
unfoldable pub fed_whole : List ℕ → Feeding → Feeding
fed_whole input f = while (going (length input)) (fed_once input) (length input + length f.out) f

-- 1: the tables and the header, an output without room for a reply, a state that no bytes could have left
unfoldable pub feed_number : List ℕ → List ℕ → Stream → ℕ → ℕ
feed_number l r x room =
    shape_number l r x.header
    ▸ (ltb room longest, shape)
    ▸ (not (possible x), shape)

-- what a piece leaves: the number, the bytes taken and written, whether something waits to be done, the state, tables and output
pub record Piece : Type 0 where
  pub number : ℕ
  pub taken : ℕ
  pub written : ℕ
  pub waits : Bool
  pub run : Run
  pub out : List ℕ

abbrev pub piece : ℕ → Feeding → Piece
piece n f = record { number = 0; taken = f.taken; written = f.written; waits = waits n f; run = f.run; out = f.out }

abbrev pub begun : Run → List ℕ → Feeding
begun s out = record { run = s; taken = 0; out = out; written = 0 }

-- refused: nothing is taken, written or changed
abbrev pub refused_piece : ℕ → Run → List ℕ → Piece
refused_piece n s out = record { number = n; taken = 0; written = 0; waits = false; run = s; out = out }

-- the piece that an answer of the code stands for, beside the state that was given, tables and output
abbrev pub fed : Stream → Result Fed Refusal → List ℕ → List ℕ → List ℕ → Piece
fed s (Ok x) l r out =
    record {
      number = 0;
      taken = x.taken;
      written = x.written;
      waits = x.waits;
      run = run_of l r x.stream;
      out = out;
    }
fed s (Err e) l r out = refused_piece (number_of e) (run_of l r s) out

abbrev pub piece_unless : Run → List ℕ → Piece → Piece
piece_unless s out p =
    let n = feed_number s.links s.rows s.stream (length out) in
    pick (eqb n 0) p (refused_piece n s out)

unfoldable pub feed_rule : Run → List ℕ → List ℕ → Piece
feed_rule s input out = piece_unless s out (piece (length input) (fed_whole input (begun s out)))

-- the end of the input, after the last piece; while a walk is under way nothing is done, and it waits
unfoldable pub finish_rule : Run → List ℕ → Piece
finish_rule s out = piece_unless s out (piece 0 (following 0 out 0 (ended_of s)))
