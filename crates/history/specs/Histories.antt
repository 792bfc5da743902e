-- A history: a table that a start or a rebuild has left, then any calls, each given the same tables and the header last handed back.
use Rattle.std.specs.Prelude.{ℕ, List, [], ◌∷◌, ◌≡◌}
use Rattle.rules.specs.Values.{refuses, Values, Outcome}
use Rattle.rules.specs.Access.{look_rule}
use Rattle.rules.specs.declared.Header.{Header}
use Rattle.rules.specs.declared.Key.{Key}
use Rattle.history.specs.Calls.{Beginning, begin_rule, Call, begin, ask, insert, remove, write, replace, drain, clear, retain, rule}

-- both tables and the header that goes with them
pub record Table : Type 0 where
  pub links : List ℕ
  pub rows : List ℕ
  pub header : Header

-- the table that a call leaves
abbrev pub left : Outcome → Table
left o = record { links = o.links; rows = o.rows; header = o.header }

-- what the call does, given the table; what it answers; the table for the next call
abbrev pub outcome : Table → Call → Outcome
outcome t c = rule c t.links t.rows t.header

abbrev pub answer : Table → Call → Values
answer t c = (outcome t c).answer

abbrev pub next : Table → Call → Table
next t c = left (outcome t c)

-- what look hands out for a key: the words of its row, or none
abbrev pub looked : Table → Key → List ℕ
looked t k = look_rule t.links t.rows t.header k

-- the table after calls, and their answers
abbrev pub after : Table → List Call → Table
after t [] = t
after t (c ∷ cs) = after (next t c) cs

abbrev pub answers : Table → List Call → List Values
answers t [] = []
answers t (c ∷ cs) = answer t c ∷ answers (next t c) cs

abbrev pub Refused : Outcome → Type 0
Refused o = o.answer.kind ≡ refuses

-- where a history begins: what a start, or a rebuild, that is not refused leaves, from any words and any header
pub record Begun (t : Table) : Type 0 where
  pub by : Beginning
  pub links : List ℕ
  pub rows : List ℕ
  pub header : Header
  pub unrefused : Refused (begin_rule by links rows header) → ⊥
  pub leaves : left (begin_rule by links rows header) ≡ t

-- the call does not end the history: a start or a rebuild that is not refused does
abbrev pub GoesOn : Table → Call → Type 0
GoesOn t (begin b) = Refused (outcome t (begin b))
GoesOn t (ask q) = Unit {0}
GoesOn t (insert side) = Unit {0}
GoesOn t (remove k) = Unit {0}
GoesOn t (write k row) = Unit {0}
GoesOn t (replace k side) = Unit {0}
GoesOn t drain = Unit {0}
GoesOn t clear = Unit {0}
GoesOn t (retain bytes) = Unit {0}

abbrev pub Within : Table → List Call → Type 0
Within t [] = Unit {0}
Within t (c ∷ cs) = GoesOn t c × Within (next t c) cs

-- a history: how it began, and calls of which none ends it
pub record History : Type 0 where
  pub first : Table
  pub begun : Begun first
  pub calls : List Call
  pub within : Within first calls

-- the table after its calls; the answers that were heard
abbrev pub now : History → Table
now h = after h.first h.calls

abbrev pub heard : History → List Values
heard h = answers h.first h.calls
