-- Choosing, testing every number below a bound, counting: the plain words that the rules are written in.
use Rattle.std.specs.Prelude.{ℕ, zero, suc, ◌+◌, List, [], ◌∷◌, Bool, true, false, eqb}

-- the first where the test holds, else the second
abbrev pub pick : {A : Type 0} → Bool → A → A → A
pick true a b = a
pick false a b = b

abbrev pub both : Bool → Bool → Bool
both a b = pick a b false

abbrev pub either : Bool → Bool → Bool
either a b = pick a true b

abbrev pub one_if : Bool → ℕ
one_if t = pick t 1 0

-- the test holds of every number below n; of some number below n
unfoldable pub all_below : ℕ → (ℕ → Bool) → Bool
all_below zero t = true
all_below (suc n) t = both (all_below n t) (t n)

unfoldable pub some_below : ℕ → (ℕ → Bool) → Bool
some_below zero t = false
some_below (suc n) t = either (some_below n t) (t n)

-- of how many numbers below n the test holds
unfoldable pub count_below : ℕ → (ℕ → Bool) → ℕ
count_below zero t = 0
count_below (suc n) t = count_below n t + one_if (t n)

-- 1 where the two are one number, else 0; how often x stands in the list
unfoldable pub alike : ℕ → ℕ → ℕ
alike x y = one_if (eqb x y)

abbrev pub times : ℕ → List ℕ → ℕ
times x [] = 0
times x (y ∷ ys) = alike x y + times x ys
