-- A feed turn by turn: what is taken and written so far, and the course of what is still to come, are the whole course. Assumes nothing.
use Prim.Native.Nat.{ℕ, ◌+◌, ◌≤◌, ◌<◌}
use mathlib.Core.List.{List, [], ◌∷◌, ◌++◌, append_assoc, append-nil}
use mathlib.Core.Bool.{true, false}
use mathlib.Core.Path.{◌≡◌, refl, sym, ap, ◌∙◌}
use native.Mathlib.Omega.{arith}
use native.Mathlib.Numerals.{add-one}
use lib.ListN.{length, get_or, take, drop, length-append, length-take}
use lib.Seq.{sets-eq, take_at, take-suc}
use lib.Dec.{eqb, ltb}
use borrow.Author.Tests.{ltb-true, eqb-true, eqb-false}
use Rattle.rules.proofs.Choice.{by_pick, both_true}
use Rattle.wire.specs.Replies.{longest, fits, replied, replied_to}
use Rattle.wire.proofs.Output.{fits_room}
use Rattle.commands.specs.Turns.{Run, Turned, walk_turn}
use Rattle.commands.specs.declared.Phase.{Phase}
use Rattle.hearing.specs.Heard.{walks_in, heard}
use Rattle.stream.specs.Feeding.{reply_of, Feeding, phase_of, following, heard_once, walked_once, fed_in, fed_once, waits_in, waits, going, fed_whole, feed_number, Piece, piece, begun, feed_rule}
use Rattle.course.specs.Course.{preceded, course}
use Rattle.stream.proofs.Repeats.{at_last, kept}
use Rattle.stream.proofs.Spoken.{Fits, heard_fits, walk_fits}
use Rattle.stream.proofs.Turns.{left_of, forth, turn_less}
use Rattle.course.proofs.Courses.{before_before, walk_first, byte_first}

-- a reply that has room stands after what was written
pub reply_stands : (out : List ℕ) (at : ℕ) (reply : List ℕ) → fits (length out) at ≡ true → length reply ≤ longest →
    take (replied_to out at reply) (replied out at reply) ≡ take at out ++ reply
unfolding replied
reply_stands out at reply h j =
    let k = fits_room (length out) at h in
    rw (forth out at reply h, h, sets-eq reply out at (omega arith))
    (take_at (take at out ++ reply) (drop (at + length reply) out) (at + length reply) (simp (length-append, length-take) (omega arith)))

module _ (s : Run) (input : List ℕ) where
  -- what was fed so far is the first part of the course
  pub record SoFar (f : Feeding) : Type 0 where
    pub within : f.taken ≤ length input
    pub course_is : (rest : List ℕ) → course s (take f.taken input ++ rest) ≡ preceded (take f.written f.out) (course f.run rest)

  -- a turn that takes these bytes, and is what comes first of them
  module _ (f : Feeding) (fed : SoFar f) (room : fits (length f.out) f.written ≡ true) where
    turn_fed : (taken : ℕ) (bytes : List ℕ) (t : Turned) → taken ≤ length input →
        take taken input ≡ take f.taken input ++ bytes →
        Fits t → ((rest : List ℕ) → course f.run (bytes ++ rest) ≡ preceded (reply_of t) (course t.run rest)) → SoFar (following taken f.out f.written t)
    turn_fed taken bytes t within at fit first =
        record {
          within = within;
          course_is = λ rest.
              ap (λ (xs : List ℕ). course s (xs ++ rest)) at
              ∙ ap (course s) (append_assoc (take f.taken input) bytes rest)
              ∙ fed.course_is (bytes ++ rest)
              ∙ ap (preceded (take f.written f.out)) (first rest)
              ∙ before_before (take f.written f.out) (reply_of t) (course t.run rest)
              ∙ ap (λ (xs : List ℕ). preceded xs (course t.run rest)) (sym (reply_stands f.out f.written (reply_of t) room fit));
        }

    -- a byte that is heard
    byte_fed : f.taken < length input → walks_in (phase_of f) ≡ false → SoFar (heard_once input f)
    byte_fed more still =
        let b = get_or input f.taken 0 in
        turn_fed (f.taken + 1) (b ∷ []) (heard f.run b) (omega arith) (rw add-one (take-suc input f.taken 0 more)) (heard_fits f.run b)
        (byte_first f.run still b)

    -- a step of a walk
    walk_fed : (c : ℕ) → phase_of f ≡ Phase.Walking c → SoFar (walked_once c f)
    walk_fed c e =
        turn_fed f.taken [] (walk_turn f.run c) fed.within (sym (append-nil (take f.taken input))) (walk_fits f.run c)
        (walk_first f.run c e)

    -- by the phase
    fed_by : (p : Phase) → phase_of f ≡ p → waits_in p (ltb f.taken (length input)) ≡ true → SoFar (fed_in p input f)
    fed_by Phase.Between e w = byte_fed (ltb-true _ _ w) (ap walks_in e)
    fed_by (Phase.Gathering k got) e w = byte_fed (ltb-true _ _ w) (ap walks_in e)
    fed_by (Phase.Walking c) e w = walk_fed c e
    fed_by Phase.Ended e w = absurd (eqb-false 0 1 refl (cc))

  once_fed : (f : Feeding) → going (length input) f ≡ true → SoFar f → SoFar (fed_once input f)
  unfolding going waits fed_once
  once_fed f g fed =
      let e = both_true _ _ g in
      fed_by f fed e.0 (phase_of f) refl e.1

  none_fed : (out : List ℕ) → SoFar (begun s out)
  none_fed out = record { within = omega arith; course_is = λ rest. refl }

  -- all the turns of a feed
  pub whole_fed : (out : List ℕ) → SoFar (fed_whole input (begun s out))
  unfolding fed_whole
  whole_fed out = kept (going (length input)) (fed_once input) SoFar once_fed (length input + length out) (begun s out) (none_fed out)

-- after them there is nothing to be done, or no room
pub fed_to_end : (input : List ℕ) (f : Feeding) → going (length input) (fed_whole input f) ≡ false
unfolding fed_whole
fed_to_end input f = at_last (going (length input)) (fed_once input) (left_of (length input)) (turn_less input) (length input + length f.out) f (omega arith)

-- a feed that is not refused is all its turns
pub unrefused : (s : Run) (input out : List ℕ) → (feed_rule s input out).number ≡ 0 →
    (feed_number s.links s.rows s.stream (length out) ≡ 0) × (feed_rule s input out ≡ piece (length input) (fed_whole input (begun s out)))
unfolding feed_rule
unrefused s input out =
    let n = feed_number s.links s.rows s.stream (length out) in
    by_pick (λ (p : Piece). p.number ≡ 0 → (n ≡ 0) × (p ≡ piece (length input) (fed_whole input (begun s out)))) (eqb n 0) _ _
    (λ z _. (eqb-true n 0 z, refl))
    (λ z e. absurd (eqb-false n 0 z e))
