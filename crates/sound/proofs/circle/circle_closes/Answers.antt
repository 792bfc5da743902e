use Rattle.std.proofs.Common.{◌≡◌, ◌+◌, ◌-◌, ◌∙◌, arith, eqb, eq-eqb, ne_eqb}
use Rattle.rules.specs.Choice.{pick, both}
use Rattle.rules.specs.Check.{circle_test}
use Rattle.rules.proofs.Check.{circle_on, same_less}
use Rattle.sound.proofs.circle.circle_closes.Goals as goal
use Rattle.sound.proofs.circle.circle_closes.Goals.{After-may_follow}

-- what is left of the test after a step
step : (c : After-may_follow) →
    let l = c.args.links.now in
    let used = c.args.used in
    let left = c.args.steps - (c.loop-step.step + 1) in
    circle_test l used c.args.steps 0 ≡
    both c.may_follow.result (pick (eqb c.next-y.result 0) (eqb left 0) (circle_test l used left c.next-y.result))
step c =
    c.loop-step.invariant
    ∙ circle_on _ _ (c.args.steps - c.loop-step.step) _ (omega arith) (c.args.steps - (c.loop-step.step + 1)) (omega arith) _ c.next-y.ensures _ c.may_follow.ensures

pub returns-then-not-may_follow : goal.returns-then-not-may_follow
returns-then-not-may_follow c = rw (step (goal.at.returns-then-not-may_follow c).After-may_follow, c.if-not-may_follow.true)

pub returns-then-y-eq0 : goal.returns-then-y-eq0
returns-then-y-eq0 c =
    rw (step (goal.at.returns-then-y-eq0 c).After-may_follow, c.if-not-may_follow.false, eq-eqb _ _ c.if-y-eq0.true)
    (same_less c.loop-step.step c.args.steps c.loop-step-test.true)

pub loop-step-preserved : goal.loop-step-preserved
loop-step-preserved c =
    rw (step (goal.at.loop-step-preserved c).After-may_follow, c.if-not-may_follow.false, ne_eqb _ _ c.if-y-eq0.false)

pub returns : goal.returns
unfolding circle_test
returns c =
    let none : c.args.steps - c.loop-step.step ≡ 0 = omega arith in
    rw (c.loop-step.invariant, none)
