use Rattle.std.proofs.Common.{◌≡◌, ℕ, true}
use Rattle.rules.specs.Choice.{all_below}
use Rattle.rules.specs.Words.{version_at}
use Rattle.rules.specs.Runs.{front_of}
use Rattle.rules.specs.Check.{meet_at}
use Rattle.sound.proofs.ends.ends_meet.Given as goal

-- the front at hand is that of slot i, and the ends of the runs passed meet
abbrev pub invariant-loop-i : goal.invariant-loop-i
invariant-loop-i l =
    (l.front ≡ front_of (version_at l.links l.used) l.used l.i)
    × (all_below l.i (λ (j : ℕ). meet_at l.links l.used (front_of (version_at l.links l.used) l.used j) j) ≡ true)
