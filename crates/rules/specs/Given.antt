-- Which numbers a call gives: document 01's column "Given by" is a list of numbers for each call.
use Rattle.std.specs.Prelude.{ℕ, List, [], ◌∷◌, Bool, true, false, ◌≡◌, eqb}
use Rattle.rules.specs.Choice.{either}

-- the number is one of these; it is 0, which is no refusal, or one of these
abbrev pub one_of : List ℕ → ℕ → Bool
one_of [] n = false
one_of (k ∷ ks) n = either (eqb n k) (one_of ks n)

pub record Only (ks : List ℕ) (n : ℕ) : Type 0 where
  pub listed : one_of (0 ∷ ks) n ≡ true
