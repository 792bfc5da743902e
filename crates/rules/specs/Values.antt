-- Document 01's number and values for each case of each answer, and the whole outcome of a call.
use Rattle.std.specs.Prelude.{ℕ, List, Result, Ok, Err, ⊤, eqb}
use Rattle.rules.specs.Choice.{pick}
use Rattle.rules.specs.Words.{zero_row}
use Rattle.rules.specs.Refusals.{number_of}
use Rattle.rules.specs.declared.Header.{Header}
use Rattle.rules.specs.declared.Key.{Key}
use Rattle.rules.specs.declared.Refusal.{Refusal}
use Rattle.rules.specs.declared.HopAnswer.{HopAnswer}
use Rattle.rules.specs.declared.DrainAnswer.{DrainAnswer}
use Rattle.rules.specs.declared.Handed.{Handed}
use Rattle.rules.specs.declared.HandedRow.{HandedRow}

-- a call gives what was asked for, is done, or is refused: so a refusal is apart from all else, even at number 0
pub data Kind : Type 0 where
  gives : Kind
  ends : Kind
  refuses : Kind

pub record Values : Type 0 where
  pub kind : Kind
  pub number : ℕ
  pub key : Key
  pub cursor : ℕ
  pub count : ℕ

abbrev pub zero_key : Key
zero_key = record { index = 0; version = 0 }

-- a key; a key with the cursor to go on from; a count; done; a refusal. What a case does not name is zero
abbrev pub keyed : Key → Values
keyed k = record { kind = gives; number = 0; key = k; cursor = 0; count = 0 }

abbrev pub visited : Key → ℕ → Values
visited k c = record { kind = gives; number = 0; key = k; cursor = c; count = 0 }

abbrev pub counted : ℕ → Values
counted n = record { kind = gives; number = 0; key = zero_key; cursor = 0; count = n }

abbrev pub done : Values
done = record { kind = ends; number = 0; key = zero_key; cursor = 0; count = 0 }

abbrev pub refused : ℕ → Values
refused n = record { kind = refuses; number = n; key = zero_key; cursor = 0; count = 0 }

-- where the number is 0 the answer, else the refusal's
abbrev pub answer_unless : ℕ → Values → Values
answer_unless n v = pick (eqb n 0) v (refused n)

-- the values of an answer: those of what it gives, or the refusal's number
abbrev pub answered : {A : Type 0} → (A → Values) → Result A Refusal → Values
answered give (Ok x) = give x
answered give (Err e) = refused (number_of e)

-- what each answer gives: a key, a count, what the hop step and the drain step find, or the work alone
abbrev pub of_key : Result Key Refusal → Values
of_key = answered keyed

abbrev pub of_count : Result ℕ Refusal → Values
of_count = answered counted

abbrev pub found_by_hop : HopAnswer → Values
found_by_hop (HopAnswer.Visited k c) = visited k c
found_by_hop HopAnswer.Done = done

abbrev pub of_hop : Result HopAnswer Refusal → Values
of_hop = answered found_by_hop

abbrev pub found_by_drain : DrainAnswer → Values
found_by_drain (DrainAnswer.Keyed k) = keyed k
found_by_drain DrainAnswer.Done = done

abbrev pub of_drain : Result DrainAnswer Refusal → Values
of_drain = answered found_by_drain

abbrev pub of_done : Result ⊤ Refusal → Values
of_done = answered (λ _. done)

-- a number alone: 0 says that the work is done
abbrev pub of_number : ℕ → Values
of_number n = answer_unless n done

-- what a call leaves: the answer's values, the row by value (zero where there is none), the header and both tables
pub record Outcome : Type 0 where
  pub answer : Values
  pub row : List ℕ
  pub header : Header
  pub links : List ℕ
  pub rows : List ℕ

-- an outcome with no row by value
abbrev pub plain : Values → Header → List ℕ → List ℕ → Outcome
plain v hd l r = record { answer = v; row = zero_row; header = hd; links = l; rows = r }

-- the outcome that a struct stands for, beside the tables at exit
abbrev pub handed : {A : Type 0} → (Result A Refusal → Values) → Handed A → List ℕ → List ℕ → Outcome
handed of x l r = plain (of x.answer) x.header l r

abbrev pub handed_row : {A : Type 0} → (Result A Refusal → Values) → HandedRow A → List ℕ → List ℕ → Outcome
handed_row of x l r = record { answer = of x.answer; row = x.row; header = x.header; links = l; rows = r }

-- a refusal, the same for every call: its number, zeros, the header as given, nothing written
abbrev pub refusal : List ℕ → List ℕ → Header → ℕ → Outcome
refusal l r hd n = plain (refused n) hd l r

-- where the number is 0 the step, else the refusal
unfoldable pub unless : List ℕ → List ℕ → Header → ℕ → Outcome → Outcome
unless l r hd n step = pick (eqb n 0) step (refusal l r hd n)
