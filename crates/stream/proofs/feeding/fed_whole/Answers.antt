use Rattle.wire.specs.Replies.{fits}
use Prim.Native.Nat.{◌<◌}
use mathlib.Core.Path.{ap, subst}
use Rattle.stream.specs.Feeding.{waits}
use Rattle.rules.proofs.Choice.{both_true}
use mathlib.Core.Bool.{true}
use Rattle.stream.proofs.Turns.{left_of, turn_less}
use Rattle.stream.proofs.Repeats.{stopped, onward}
use Rattle.stream.specs.Feeding.{Feeding, feeding, going, fed_once, fed_whole}
use Rattle.stream.specs.Repeats.{while}
use native.Mathlib.Omega.{arith}
use mathlib.Core.Path.{◌≡◌, refl, sym, ◌∙◌}
use lib.ListN.{length}
use Rattle.stream.proofs.feeding.fed_whole.Goals as goal

pub loop-links-init : goal.loop-links-init
unfolding fed_whole
loop-links-init c = (refl, refl, refl, refl)

pub fed_once-f-requires : goal.fed_once-f-requires
fed_once-f-requires c =
    let v = c.loop-links in
    (both_true (fits (length v.out) v.f.written) _ (sym c.going.ensures ∙ c.loop-links-test.true)).1

pub loop-links-smaller : goal.loop-links-smaller
unfolding going waits
loop-links-smaller c =
    let y = c.fed_once-f in
    let v = c.loop-links in
    let input = c.args.input.now in
    let before : Feeding = feeding v.f v.links v.rows v.out in
    let goes : going (length input) before ≡ true = sym c.going.ensures ∙ c.loop-links-test.true in
    let less = turn_less input before goes in
    subst (λ (after : Feeding). left_of (length input) after < left_of (length input) before) (sym y.ensures) less

pub loop-links-preserved : goal.loop-links-preserved
unfolding going waits
loop-links-preserved c =
    let y = c.fed_once-f in
    let v = c.loop-links in
    let input = c.args.input.now in
    let before : Feeding = feeding v.f v.links v.rows v.out in
    let goes : going (length input) before ≡ true = sym c.going.ensures ∙ c.loop-links-test.true in
    let less = turn_less input before goes in (
      y.auto.links ∙ v.invariant.0,
      y.auto.rows ∙ v.invariant.1,
      y.auto.out ∙ v.invariant.2,
      ap (while (going (length input)) (fed_once input) _) y.ensures
          ∙ sym (onward (going (length input)) (fed_once input) (left_of (length input)) (turn_less input) _ _ before goes (omega (arith, v.invariant.2)) (omega (arith, v.invariant.2, less)))
          ∙ v.invariant.3,
    )

pub returns : goal.returns
unfolding going waits
returns c =
    let v = c.loop-links in
    sym (stopped (going _) (fed_once _) _ (feeding v.f v.links v.rows v.out) (sym c.going.ensures ∙ c.loop-links-test.false)) ∙ v.invariant.3
