-- Where a feed stops: the piece is taken whole, or less room is left than the longest reply needs, or the stream has ended. Assumes nothing.
use Prim.Native.Nat.{ℕ, ◌+◌, ◌≤◌, ◌<◌}
use mathlib.Core.List.{List}
use mathlib.Core.Bool.{Bool, true, false}
use mathlib.Core.Path.{◌≡◌, refl, sym, ap, ◌∙◌, subst}
use mathlib.Core.Logic.{◌≢◌}
use native.Mathlib.Omega.{arith}
use lib.ListN.{length}
use lib.Dec.{eqb, ltb}
use borrow.Author.Tests.{ltb-false, leb-false, eqb-false}
use Rattle.rules.specs.Choice.{both}
use Rattle.rules.proofs.Choice.{by_pick, both_if}
use Rattle.wire.specs.Replies.{longest, fits}
use Rattle.commands.specs.Turns.{Run}
use Rattle.commands.specs.declared.Phase.{Phase}
use Rattle.hearing.specs.Heard.{walks_in}
use Rattle.stream.specs.Feeding.{Feeding, Piece, piece, phase_of, waits_in, waits, going, fed_once, fed_whole, begun, feed_number, feed_rule}
use Rattle.stream.proofs.Repeats.{stopped, kept}
use Rattle.stream.proofs.Turns.{turn_length}
use Rattle.course.proofs.FedTurns.{whole_fed, fed_to_end, unrefused}

-- of two tests that do not both hold, the first does not where the second does
first_fails : (a b : Bool) → both a b ≡ false → b ≡ true → a ≡ false
first_fails true b e h = sym h ∙ e
first_fails false b e h = refl

-- where nothing is to be done before the end, no byte is left and no walk is under way
nothing_left : (n taken : ℕ) (p : Phase) → taken ≤ n → waits_in p (ltb taken n) ≡ false → p ≢ Phase.Ended →
    (taken ≡ n) × (walks_in p ≡ false)
nothing_left n taken Phase.Between h w e = (omega (arith, ltb-false taken n w), refl)
nothing_left n taken (Phase.Gathering k got) h w e = (omega (arith, ltb-false taken n w), refl)
nothing_left n taken (Phase.Walking c) h w e = absurd (eqb-false 0 1 refl (cc))
nothing_left n taken Phase.Ended h w e = absurd (e refl)

module _ (s : Run) (input out : List ℕ) where
  -- an output keeps its length
  same_room : length (fed_whole input (begun s out)).out ≡ length out
  unfolding fed_whole
  same_room =
      kept (going (length input)) (fed_once input) (λ (f : Feeding). length f.out ≡ length out) (λ f _ e. turn_length input f ∙ e)
      (length input + length out) (begun s out) refl

  module _ (e : (feed_rule s input out).number ≡ 0) where
    abbrev f : Feeding
    f = fed_whole input (begun s out)

    by_turns : (P : Piece → Type 0) → P (piece (length input) f) → P (feed_rule s input out)
    by_turns P p = subst P (sym (unrefused s input out e).1) p

    -- not since the output is full: the piece is taken whole, and the last walk is at its end
    pub taken_whole : let p = feed_rule s input out in p.waits ≡ false → p.run.stream.phase ≢ Phase.Ended →
        (p.taken ≡ length input) × (walks_in p.run.stream.phase ≡ false)
    unfolding waits
    taken_whole =
        by_turns (λ (p : Piece). p.waits ≡ false → p.run.stream.phase ≢ Phase.Ended → (p.taken ≡ length input) × (walks_in p.run.stream.phase ≡ false))
        (nothing_left (length input) f.taken (phase_of f) (whole_fed s input out).within)

    -- since it is full: less room is left than the longest reply needs
    pub too_full : let p = feed_rule s input out in p.waits ≡ true → length out < p.written + longest
    unfolding going fits
    too_full =
        by_turns (λ (p : Piece). p.waits ≡ true → length out < p.written + longest)
        (λ h.
        let none-fits = first_fails (fits (length f.out) f.written) (waits (length input) f) (fed_to_end input (begun s out)) h in
        let less = leb-false (f.written + longest) (length f.out) none-fits in
        omega (arith, same_room))

  -- after the end no byte is read and none is written
  pub ended_feed : s.stream.phase ≡ Phase.Ended → let p = feed_rule s input out in
      (p.taken ≡ 0) × (p.written ≡ 0) × (p.run ≡ s) × (p.out ≡ out)
  unfolding feed_rule fed_whole going waits
  ended_feed e =
      let still = both_if (fits (length out) 0) _ (λ _. ap (λ (p : Phase). waits_in p (ltb 0 (length input))) e) in
      let none = stopped (going (length input)) (fed_once input) (length input + length out) (begun s out) still in
      by_pick (λ (p : Piece). (p.taken ≡ 0) × (p.written ≡ 0) × (p.run ≡ s) × (p.out ≡ out))
      (eqb (feed_number s.links s.rows s.stream (length out)) 0) _ _
      (λ _. rw none (refl, refl, refl, refl))
      (λ _. (refl, refl, refl, refl))
