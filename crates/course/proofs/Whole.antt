-- The whole of the input: its pieces, and its end. Assumes nothing.
use Prim.Native.Nat.{ℕ, ◌+◌, ◌≤◌}
use mathlib.Core.List.{List, ◌++◌}
use mathlib.Core.Bool.{true, false}
use mathlib.Core.Path.{◌≡◌, refl, ap, ◌∙◌}
use native.Mathlib.Omega.{arith}
use lib.ListN.{length}
use lib.Dec.{eqb}
use borrow.Author.Tests.{ltb-false, le-leb, eqb-true, eqb-false}
use Rattle.rules.proofs.Choice.{by_pick}
use Rattle.rules.proofs.Refusals.{passed}
use Rattle.wire.specs.Replies.{longest, fits}
use Rattle.commands.specs.Turns.{Run}
use Rattle.hearing.specs.Heard.{walks_in, ended_of}
use Rattle.stream.specs.Feeding.{reply_of, Piece, feed_number, finish_rule}
use Rattle.course.specs.Course.{Course, spoken_after, whole}
use Rattle.course.specs.Pieces.{written_of, Pieces}
use Rattle.stream.proofs.Spoken.{ended_fits}
use Rattle.course.proofs.FedTurns.{reply_stands}
use Rattle.course.proofs.Pieces.{whole_course}

-- a number of 0 says that the output has room for a reply
has_room : (s : Run) (n : ℕ) → feed_number s.links s.rows s.stream n ≡ 0 → fits n 0 ≡ true
unfolding feed_number fits
has_room s n e =
    let room : longest ≤ n = ltb-false n longest (passed _ _ _ (omega arith) (passed _ _ _ (omega arith) e).0).1 in
    le-leb (0 + longest) n (omega (arith, room))

-- the end of the input replies what its turn says
finished : (s : Run) (out : List ℕ) → (finish_rule s out).number ≡ 0 →
    let t = ended_of s in
    let p = finish_rule s out in
    (written_of p ≡ reply_of t) × (p.run ≡ t.run)
unfolding finish_rule
finished s out =
    let t = ended_of s in
    let n = feed_number s.links s.rows s.stream (length out) in
    by_pick (λ (p : Piece). p.number ≡ 0 → (written_of p ≡ reply_of t) × (p.run ≡ t.run)) (eqb n 0) _ _
    (λ z _. (reply_stands out 0 (reply_of t) (has_room s (length out) (eqb-true n 0 z)) (ended_fits s), refl))
    (λ z e. absurd (eqb-false n 0 z e))

-- piece after piece and then the end: all that was written is what the rule replies to all the bytes
pub whole_input : {s s' : Run} {taken written : List ℕ} → Pieces s taken written s' → walks_in s'.stream.phase ≡ false → (out : List ℕ) →
    let p = finish_rule s' out in p.number ≡ 0 → whole s taken ≡ record { run = p.run; said = written ++ written_of p }
whole_input {s} {s'} {taken} {written} ps still out e =
    let f = finished s' out e in
    ap (λ (x : Course). spoken_after x.said (ended_of x.run)) (whole_course ps still)
    ∙ rw (f.0, f.1) refl
