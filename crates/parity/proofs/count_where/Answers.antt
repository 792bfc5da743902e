use Rattle.rules.specs.Choice.{one_if, count_below}
use Rattle.rules.proofs.Below.{count_on, one_most}
use Rattle.std.proofs.Common.{◌≡◌, Bool, true, false, refl, ap, ◌∙◌, arith}
use mir.Val.{bool_byte}
use Rattle.parity.proofs.count_where.Goals as goal

pub loop-i-init : goal.loop-i-init
unfolding count_below
loop-i-init g c = (omega arith, λ p h. refl)

-- a test as a number
told : (b : Bool) → bool_byte b ≡ one_if b
told true = refl
told false = refl

pub loop-i-preserved : goal.loop-i-preserved
loop-i-preserved g c =
    let one = c.from-count.ensures ∙ told c.test.result in (
      omega (arith, one, one_most c.test.result, c.loop-i.invariant.0),
      λ p h. (count_on _ p _ (c.loop-i.invariant.1 p h) c.from-count.result (one ∙ ap one_if (h _ _ c.test.ensures))).0,
    )
