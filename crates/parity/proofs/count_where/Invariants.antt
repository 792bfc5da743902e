use Rattle.std.proofs.Common.{◌≡◌, ℕ, Bool, ◌≤◌}
use Rattle.rules.specs.Choice.{count_below}
use Rattle.parity.proofs.count_where.Given as goal

-- the count so far is that of the numbers passed
abbrev pub invariant-loop-i : goal.invariant-loop-i
invariant-loop-i g l =
    (l.count ≤ l.i) × ((p : ℕ → Bool) → ((i : ℕ) (b : Bool) → goal.F-post g l.test i b → b ≡ p i) → l.count ≡ count_below l.i p)
