-- A chain of refusals, test by test, as code that stops at the first meets it. Assumes nothing.
use Prim.Native.Nat.{ℕ}
use mathlib.Core.Bool.{Bool}
use mathlib.Core.Path.{◌≡◌, refl, ap, ◌∙◌}
use Rattle.std.specs.Prelude.{Result, Ok, Err, ⊤, IsErrAnd}
use native.Mathlib.Omega.{arith}
use lib.Dec.{eqb}
use Rattle.rules.specs.Choice.{pick}
use Rattle.rules.specs.Refusals.{◌▸◌, number_of, number_in}
use Rattle.rules.specs.declared.Refusal.{Refusal}
use Rattle.rules.proofs.Refusals.{number_stays}

-- the chain is its choice
pub more : (n k : ℕ) (t : Bool) → n ▸ (t, k) ≡ pick (eqb n 0) (pick t k 0) n
unfolding ◌▸◌
more n k t = refl

-- every refusal has a number
pub some_number : (e : Refusal) → number_of e ≡ 0 → ⊥
some_number Refusal.Shape h = omega arith
some_number Refusal.Damaged h = omega arith
some_number Refusal.EvenVersion h = omega arith
some_number Refusal.NotLive h = omega arith
some_number Refusal.Full h = omega arith
some_number Refusal.StaleCursor h = omega arith
some_number Refusal.WrongPresence h = omega arith
some_number Refusal.ZeroOccupied h = omega arith
some_number Refusal.BrokenStream h = omega arith

-- a refusal's number stays, whatever the test
pub refused_stays : (e : Refusal) (t : Bool) (k : ℕ) → number_of e ▸ (t, k) ≡ number_of e
refused_stays e t k = number_stays (number_of e) t k (some_number e)

-- what a `?` passes on is the refusal that it met
pub passed_on : (r : Result ⊤ Refusal) (e : Refusal) (m : ℕ) → IsErrAnd r (λ y. y ≡ e) → number_of e ≡ m → number_in r ≡ m
passed_on (Ok x) e m h same = absurd h
passed_on (Err y) e m h same = ap number_of h ∙ same

-- what a chain's code needs
pub ruleset chain = (more, refused_stays, passed_on)
