-- A table of words and the machine that it is; a call of the rules and the machine's step that it is; which numbers a call can give.
use Rattle.std.specs.Prelude.{ℕ, ◌<◌, ◌%◌, List, ◌≡◌}
use Rattle.rules.specs.Words.{version_at}
use Rattle.rules.specs.Values.{Outcome}
use Rattle.rules.specs.Refusals.{shape_number}
use Rattle.rules.specs.Given.{Only}
use Rattle.rules.specs.Sound.{Sound}
use Rattle.rules.specs.declared.Header.{Header}
use Rattle.runs.specs.Machine.{Machine, machine_of}
use Rattle.runs.specs.Steps.{Step}

-- a sound table of the right shape is the machine of its words and its chain
pub record Shows (l r : List ℕ) (hd : Header) (m : Machine) : Type 0 where
  pub shaped : shape_number l r hd ≡ 0
  pub sound : Sound l hd
  pub same : machine_of l r hd sound.circle.after ≡ m

-- nothing but slot 0 is vacant
abbrev pub NoneVacant : List ℕ → ℕ → Type 0
NoneVacant l used = (i : ℕ) → 0 < i → i < used → version_at l used i % 2 ≡ 1

-- the call answers what the step answers, and leaves a sound table of the right shape that is the machine the step leaves
pub record Does (o : Outcome) (s : Step) : Type 0 where
  pub answer : o.answer ≡ s.answer
  pub row : o.row ≡ s.row
  pub shows : Shows o.links o.rows o.header s.machine

-- on every sound table of the right shape the call is the step
abbrev pub Simulates : (List ℕ → List ℕ → Header → Outcome) → (Machine → Step) → Type 0
Simulates call step = (l r : List ℕ) (hd : Header) (m : Machine) → Shows l r hd m → Does (call l r hd) (step m)

-- on every sound table of the right shape the call gives no other numbers than these
abbrev pub GivesOnly : List ℕ → (List ℕ → List ℕ → Header → Outcome) → Type 0
GivesOnly ks call = (l r : List ℕ) (hd : Header) → shape_number l r hd ≡ 0 → Sound l hd → Only ks (call l r hd).answer.number

-- two outcomes that answer alike and leave one machine
pub record SameAnswer (o o' : Outcome) (m : Machine) : Type 0 where
  pub answer : o.answer ≡ o'.answer
  pub row : o.row ≡ o'.row
  pub header : o.header ≡ o'.header
  pub shows : Shows o.links o.rows o.header m
  pub shows' : Shows o'.links o'.rows o'.header m
