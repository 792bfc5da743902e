use Rattle.std.proofs.Common.{◌≡◌, ℕ, ◌+◌, ◌-◌, sym, ◌∙◌, refl, add-one, arith}
use Rattle.rules.specs.Values.{Outcome, of_drain, handed_row}
use Rattle.rules.specs.Drain.{drain_rule}
use Rattle.rules.specs.Clear.{drain_times}
use Rattle.clear.proofs.drain_all.Goals as goal

-- the first of the steps, whose outcome is known; no step
first_step : (m n : ℕ) → m ≡ n + 1 → (o x : Outcome) → x ≡ drain_rule o.links o.rows o.header → drain_times m o ≡ drain_times n x
unfolding drain_times
first_step m n h o x e = rw (h, add-one, e)

no_step : (n : ℕ) → n ≡ 0 → (o : Outcome) → drain_times n o ≡ o
unfolding drain_times
no_step n h o = rw h

pub loop-preserved : goal.loop-preserved
loop-preserved c =
    let left : c.args.header.live - c.loop.counter ≡ c.args.header.live - (c.loop.counter + 1) + 1 = omega arith in
    sym (first_step _ _ left (handed_row of_drain c.loop.last c.loop.links c.loop.rows) _ c.drain_step-last-in-loop.ensures) ∙ c.loop.invariant

pub returns : goal.returns
returns c =
    let none : c.args.header.live - c.loop.counter ≡ 0 = omega arith in
    sym (no_step _ none _) ∙ c.loop.invariant ∙ sym (first_step _ _ refl _ _ c.drain_step-last.ensures)
