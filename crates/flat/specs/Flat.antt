-- The flat form of an outcome: a number for its kind, and every value of the answer at its place in one struct.
use Rattle.std.specs.Prelude.{ℕ, List}
use Rattle.rules.specs.Values.{Kind, gives, ends, refuses, Values, of_number, Outcome, plain}
use Rattle.rules.specs.Access.{key_number}
use Rattle.rules.specs.declared.Header.{Header}
use Rattle.rules.specs.declared.Key.{Key}
use Rattle.flat.specs.declared.Answer.{Answer}

-- the version of the struct's layout
abbrev pub layout : ℕ
layout = 1

-- answer, done, refused
abbrev pub kind_number : Kind → ℕ
kind_number gives = 0
kind_number ends = 1
kind_number refuses = 2

-- values beside a row and a header
abbrev pub flat_of : Values → List ℕ → Header → Answer
flat_of v row hd =
    record {
      layout = layout;
      kind = kind_number v.kind;
      number = v.number;
      key = v.key;
      cursor = v.cursor;
      count = v.count;
      row = row;
      header = hd;
    }

abbrev pub flat : Outcome → Answer
flat o = flat_of o.answer o.row o.header

-- what a call leaves: its answer and both tables
pub record Surfaced : Type 0 where
  pub answer : Answer
  pub links : List ℕ
  pub rows : List ℕ

abbrev pub surfaced : Answer → List ℕ → List ℕ → Surfaced
surfaced x l r = record { answer = x; links = l; rows = r }

abbrev pub flattened : Outcome → Surfaced
flattened o = surfaced (flat o) o.links o.rows

-- key number answers done for a live key; tables and header are put around its number
abbrev pub key_number_rule : List ℕ → List ℕ → Header → Key → Outcome
key_number_rule l r hd key = plain (of_number (key_number l r hd key)) hd l r
