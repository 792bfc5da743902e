use Rattle.rules.specs.Choice.{all_below}
use Rattle.rules.specs.Words.{version_at}
use Rattle.rules.specs.Runs.{front_of}
use Rattle.rules.specs.Check.{meet_at, ends_test}
use Rattle.rules.proofs.Below.{all_next, all_missed}
use Rattle.rules.proofs.Check.{front_on}
use mathlib.Core.Path.{◌≡◌, refl, sym, ◌∙◌}
use native.Mathlib.Omega.{arith}
use Rattle.sound.proofs.ends.ends_meet.Goals as goal
use Rattle.sound.proofs.ends.ends_meet.Goals.{After-meet_at}

pub loop-i-init : goal.loop-i-init
unfolding front_of all_below
loop-i-init c = (refl, refl)

-- slot i is judged as the rule does it
judged : (c : After-meet_at) →
    let l = c.args.links.now in
    let used = c.args.used in
    let i = c.loop-i.i in
    c.meet_at.result ≡ meet_at l used (front_of (version_at l used) used i) i
judged c = rw (← c.loop-i.invariant.0) c.meet_at.ensures

pub returns-then-not-meet_at : goal.returns-then-not-meet_at
unfolding ends_test
returns-then-not-meet_at c =
    sym (all_missed _ _ c.loop-i.i c.loop-i-test.true
    (sym (judged (goal.at.returns-then-not-meet_at c).After-meet_at) ∙ c.if-not-meet_at.true))

pub loop-i-preserved : goal.loop-i-preserved
loop-i-preserved c = (
  front_on _ _ _ _ c.loop-i.invariant.0 _ c.front_after-front.ensures,
  rw (all_next, c.loop-i.invariant.1) (sym (judged (goal.at.loop-i-preserved c).After-meet_at) ∙ c.if-not-meet_at.false),
)

pub returns : goal.returns
unfolding ends_test
returns c =
    let all : c.loop-i.i ≡ c.args.used = omega arith in
    sym (rw all at c.loop-i.invariant.1)
