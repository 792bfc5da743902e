-- One type that has every public call with its arguments, and the rule of each, which is the definition that the call's contract cites.
-- Key number answers a number alone and a look a part alone; tables and header, unchanged, are put around what their contracts name.
use Rattle.std.specs.Prelude.{ℕ, List, ◌≡◌, length}
use Rattle.std.proofs.Math.Seq.{paste}
use Rattle.rules.specs.Words.{row_words}
use Rattle.rules.specs.Values.{Outcome, of_number, plain}
use Rattle.rules.specs.Start.{start_rule, room_rule}
use Rattle.rules.specs.Access.{key_number, look_rule, look_start, replace_rule}
use Rattle.rules.specs.Insert.{insert_rule}
use Rattle.rules.specs.Remove.{remove_rule}
use Rattle.rules.specs.Hop.{hop_rule}
use Rattle.rules.specs.Drain.{drain_rule}
use Rattle.rules.specs.Check.{check_rule}
use Rattle.rules.specs.Clear.{clear_rule}
use Rattle.rules.specs.Retain.{retain_rule}
use Rattle.rules.specs.Rebuild.{rebuild_rule}
use Rattle.rules.specs.declared.Header.{Header}
use Rattle.rules.specs.declared.Key.{Key}

-- any eight words
pub record Row : Type 0 where
  pub words : List ℕ
  pub eight : length words ≡ row_words

-- the calls that begin a history
pub data Beginning : Type 0 where
  start : Beginning
  rebuild : (bytes : List ℕ) → Beginning

-- the calls that only tell; number is key number
pub data Question : Type 0 where
  number : (key : Key) → Question
  look : (key : Key) → Question
  hop : (cursor : ℕ) → Question
  check : Question
  room : Question

-- every public call; write is eight words written through the part that look_mut hands out
pub data Call : Type 0 where
  begin : Beginning → Call
  ask : Question → Call
  insert : (side : List ℕ) → Call
  remove : (key : Key) → Call
  write : (key : Key) (row : Row) → Call
  replace : (key : Key) (side : List ℕ) → Call
  drain : Call
  clear : Call
  retain : (bytes : List ℕ) → Call

abbrev pub begin_rule : Beginning → List ℕ → List ℕ → Header → Outcome
begin_rule start l r hd = start_rule l r hd
begin_rule (rebuild bytes) l r hd = rebuild_rule l r hd bytes

-- a look names no number, so the one that key number names stands for its answer, beside the words of its part
abbrev pub ask_rule : Question → List ℕ → List ℕ → Header → Outcome
ask_rule (number k) l r hd = plain (of_number (key_number l r hd k)) hd l r
ask_rule (look k) l r hd =
    record { answer = of_number (key_number l r hd k); row = look_rule l r hd k; header = hd; links = l; rows = r }
ask_rule (hop c) l r hd = hop_rule l r hd c
ask_rule check l r hd = check_rule l r hd
ask_rule room l r hd = room_rule l r hd

-- look_mut hands out the same part as look, with look's answer, and the caller writes eight words over it; a part without words takes none
abbrev pub write_rule : List ℕ → List ℕ → Header → Key → Row → Outcome
write_rule l r hd k row =
    record {
      answer = of_number (key_number l r hd k);
      row = look_rule l r hd k;
      header = hd;
      links = l;
      rows = paste r (look_start l r hd k) row.words (length (look_rule l r hd k));
    }

abbrev pub rule : Call → List ℕ → List ℕ → Header → Outcome
rule (begin b) l r hd = begin_rule b l r hd
rule (ask q) l r hd = ask_rule q l r hd
rule (insert side) l r hd = insert_rule l r hd side
rule (remove k) l r hd = remove_rule l r hd k
rule (write k row) l r hd = write_rule l r hd k row
rule (replace k side) l r hd = replace_rule l r hd k side
rule drain l r hd = drain_rule l r hd
rule clear l r hd = clear_rule l r hd
rule (retain bytes) l r hd = retain_rule l r hd bytes
