-- A call whose tests come to a refusal answers with it; where they pass its answer is the step's. Every call's returns cite these.
-- m is the rule's number. Assumes nothing.
use Prim.Native.Nat.{ℕ}
use mathlib.Core.List.{List}
use mathlib.Core.Path.{◌≡◌, refl, sym}
use borrow.Author.Tests.{ne_eqb}
use Rattle.std.specs.Prelude.{Result, Ok, Err, ⊤}
use Rattle.rules.specs.Refusals.{number_of, number_in}
use Rattle.rules.specs.Values.{Outcome, plain, done, refused, of_done, unless}
use Rattle.rules.specs.declared.Header.{Header}
use Rattle.rules.specs.declared.Refusal.{Refusal}
use Rattle.rules.proofs.Chain.{some_number}

module _ (l r : List ℕ) (hd : Header) (m : ℕ) (step : Outcome) where
  pub refused_by : (e : Refusal) → number_of e ≡ m → plain (refused (number_of e)) hd l r ≡ unless l r hd m step
  unfolding unless
  refused_by e same = simp (sym same, ne_eqb (number_of e) 0 (some_number e))

  pub done_by : 0 ≡ m → (o : Outcome) → o ≡ step → o ≡ unless l r hd m step
  unfolding unless
  done_by same o e = simp (sym same) e

-- a call that answers by its tests alone, and changes nothing
pub answered_by : (l r : List ℕ) (hd : Header) (m : ℕ) (x : Result ⊤ Refusal) → number_in x ≡ m →
    plain (of_done x) hd l r ≡ unless l r hd m (plain done hd l r)
answered_by l r hd m (Ok x) same = done_by l r hd m (plain done hd l r) same _ refl
answered_by l r hd m (Err e) same = refused_by l r hd m (plain done hd l r) e same

-- what a call's code needs
pub ruleset outcomes = (refused_by, done_by, answered_by)
