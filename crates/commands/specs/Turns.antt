-- What each command does, and what is said of it. A turn is what one byte, or one step of a walk, leads to.
use Rattle.std.specs.Prelude.{ℕ, List}
use Rattle.rules.specs.Words.{zero_row}
use Rattle.rules.specs.Values.{Kind, gives, ends, refuses, Values, Outcome}
use Rattle.rules.specs.Refusals.{broken_stream}
use Rattle.rules.specs.Access.{look_row_rule}
use Rattle.rules.specs.declared.Key.{Key}
use Rattle.history.specs.Calls.{ask, hop, insert, remove, clear}
use Rattle.history.specs.Histories.{Table, outcome}
use Rattle.wire.specs.Words.{key_in, row_in}
use Rattle.wire.specs.declared.Command.{Command}
use Rattle.wire.specs.declared.Saying.{Saying}
use Rattle.commands.specs.declared.Phase.{Phase}
use Rattle.commands.specs.declared.Stream.{Stream}
use Rattle.commands.specs.declared.Turn.{Turn}

-- a run of the program between two turns: both tables and the state
pub record Run : Type 0 where
  pub links : List ℕ
  pub rows : List ℕ
  pub stream : Stream

-- the run of a state beside tables
abbrev pub run_of : List ℕ → List ℕ → Stream → Run
run_of l r x = record { links = l; rows = r; stream = x }

-- the tables with the header that goes with them; the key and the row that the body holds
abbrev pub table_of : Run → Table
table_of s = record { links = s.links; rows = s.rows; header = s.stream.header }

abbrev pub key_of : Run → Key
key_of s = key_in s.stream.body

abbrev pub row_of : Run → List ℕ
row_of s = row_in s.stream.body

-- what a turn leaves and says; the one that a struct stands for beside the tables
pub record Turned : Type 0 where
  pub run : Run
  pub saying : Saying
  pub row : List ℕ

abbrev pub turned : Turn → List ℕ → List ℕ → Turned
turned x l r = record { run = run_of l r x.stream; saying = x.saying; row = x.row }

-- what is said of an answer: 129 with its key or 130 with key and row, 131 where it is done, 132 with its number where it is refused
abbrev pub said_by : Kind → Saying → ℕ → Saying
said_by gives s n = s
said_by ends s n = Saying.Done
said_by refuses s n = Saying.Refused n

abbrev pub say_key : Values → Saying
say_key v = said_by v.kind (Saying.WithKey v.key) v.number

abbrev pub say_row : Values → Saying
say_row v = said_by v.kind (Saying.WithRow v.key) v.number

-- a turn with a call: the run after it, with the body there was and in a phase, and what is said of its answer
abbrev pub turn : List ℕ → Phase → (Values → Saying) → Outcome → Turned
turn body p say o =
    record {
      run = record { links = o.links; rows = o.rows; stream = record { header = o.header; phase = p; body = body } };
      saying = say o.answer;
      row = o.row;
    }

-- a turn without a call: the phase changes, and something is said or not
abbrev pub calmly : Stream → Phase → Saying → Turn
calmly x p said = record { stream = record { header = x.header; phase = p; body = x.body }; saying = said; row = zero_row }

abbrev pub calm : Run → Phase → Saying → Turned
calm s p said = turned (calmly s.stream p said) s.links s.rows

-- insert, 129; remove and look, 130; clear, 131; each refused, 132
abbrev pub insert_turn : Run → Turned
insert_turn s = turn s.stream.body Phase.Between say_key (outcome (table_of s) (insert (row_of s)))

abbrev pub remove_turn : Run → Turned
remove_turn s = turn s.stream.body Phase.Between say_row (outcome (table_of s) (remove (key_of s)))

abbrev pub show_turn : Run → Phase → Key → Turned
show_turn s p k = turn s.stream.body p say_row (look_row_rule s.links s.rows s.stream.header k)

abbrev pub look_turn : Run → Turned
look_turn s = show_turn s Phase.Between (key_of s)

abbrev pub clear_turn : Run → Turned
clear_turn s = turn s.stream.body Phase.Between say_key (outcome (table_of s) clear)

-- one step of a walk: the key that it finds is shown as a look shows it, 130, and the walk goes on; 131 at its end; a refused step
-- replies 132 and ends the walk
abbrev pub walk_by : Run → Outcome → Kind → Turned
walk_by s o gives = show_turn s (Phase.Walking o.answer.cursor) o.answer.key
walk_by s o ends = calm s Phase.Between (say_key o.answer)
walk_by s o refuses = calm s Phase.Between (say_key o.answer)

abbrev pub walk_turn : Run → ℕ → Turned
walk_turn s c =
    let o = outcome (table_of s) (ask (hop c)) in
    walk_by s o o.answer.kind

-- a command whose body is whole; a walk says nothing before its first step, and an unknown kind ends the run
abbrev pub command_turn : Command → Run → Turned
command_turn Command.Insert s = insert_turn s
command_turn Command.Remove s = remove_turn s
command_turn Command.Look s = look_turn s
command_turn Command.Clear s = clear_turn s
command_turn Command.Walk s = calm s (Phase.Walking 0) Saying.Silent
command_turn Command.Unknown s = calm s Phase.Ended (Saying.Refused broken_stream)
