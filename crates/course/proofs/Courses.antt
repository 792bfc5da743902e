-- The course of the stream turn by turn: a step of a walk, a byte heard, what ends the run, and nothing after the end. Assumes nothing.
use Prim.Native.Nat.{ℕ}
use mathlib.Core.List.{List, [], ◌∷◌, ◌++◌, append_assoc}
use mathlib.Core.Bool.{false}
use mathlib.Core.Path.{◌≡◌, refl, sym, ap, ◌∙◌}
use mathlib.Core.Logic.{◌≢◌}
use borrow.Author.Tests.{eqb-false}
use Rattle.rules.specs.Refusals.{broken_stream}
use Rattle.rules.specs.Values.{Kind, gives, ends, refuses, Outcome}
use Rattle.history.specs.Calls.{ask, hop}
use Rattle.history.specs.Histories.{outcome}
use Rattle.wire.specs.Commands.{command_of}
use Rattle.wire.specs.declared.Command.{Command}
use Rattle.wire.specs.declared.Saying.{Saying}
use Rattle.wire.specs.Replies.{saying_bytes}
use Rattle.wire.proofs.FiveKinds.{no_other_kind}
use Rattle.commands.specs.Turns.{Run, table_of, calm, walk_by, walk_turn, command_turn}
use Rattle.commands.specs.declared.Phase.{Phase}
use Rattle.stream.specs.Feeding.{reply_of}
use Rattle.hearing.specs.Heard.{gathered, walks_in, heard_in, heard}
use Rattle.course.specs.Course.{Course, standing, preceded, walked_out, course}
use Rattle.course.proofs.Walks.{walked_out_still, walked_out_step}

-- replies made before replies
pub before_before : (xs ys : List ℕ) (x : Course) → preceded xs (preceded ys x) ≡ preceded (xs ++ ys) x
before_before xs ys x = ap (λ (zs : List ℕ). record { run = x.run; said = zs }) (sym (append_assoc xs ys x.said))

-- all that comes after a walk that is at its end, for a byte that comes
abbrev onto : ℕ → List ℕ → Course → Course
onto b bs x =
    let t = heard x.run b in
    preceded (x.said ++ reply_of t) (course t.run bs)

onto_after : (xs : List ℕ) (b : ℕ) (bs : List ℕ) (x : Course) → onto b bs (preceded xs x) ≡ preceded xs (onto b bs x)
onto_after xs b bs x =
    let t = heard x.run b in
    ap (λ (ys : List ℕ). preceded ys (course t.run bs)) (append_assoc xs x.said (reply_of t))
    ∙ sym (before_before xs (x.said ++ reply_of t) (course t.run bs))

-- a byte that comes waits for the walk that is under way
onto_walked : (s : Run) (b : ℕ) (bs : List ℕ) → course s (b ∷ bs) ≡ onto b bs (walked_out s)
onto_walked s b bs = refl

-- in a walk its next step is replied to first
pub walk_first : (s : Run) (c : ℕ) → s.stream.phase ≡ Phase.Walking c → (bs : List ℕ) →
    course s bs ≡ preceded (reply_of (walk_turn s c)) (course (walk_turn s c).run bs)
walk_first s c e [] = walked_out_step s c e
walk_first s c e (b ∷ bs) =
    let t = walk_turn s c in
    onto_walked s b bs
    ∙ ap (onto b bs) (walked_out_step s c e)
    ∙ onto_after (reply_of t) b bs (walked_out t.run)
    ∙ ap (preceded (reply_of t)) (sym (onto_walked t.run b bs))

-- else the next byte is
pub byte_first : (s : Run) → walks_in s.stream.phase ≡ false → (b : ℕ) (bs : List ℕ) →
    course s (b ∷ bs) ≡ preceded (reply_of (heard s b)) (course (heard s b).run bs)
byte_first s h b bs = onto_walked s b bs ∙ ap (onto b bs) (walked_out_still s h)

-- after the end a byte changes nothing, and nothing is replied
pub unheard : (s : Run) → s.stream.phase ≡ Phase.Ended → (b : ℕ) → heard s b ≡ calm s Phase.Ended Saying.Silent
unfolding heard
unheard s e b = ap (λ (p : Phase). heard_in p s b) e

pub calm_same : (s : Run) (p : Phase) → s.stream.phase ≡ p → (x : Saying) → (calm s p x).run ≡ s
calm_same s p e x =
    ap (λ (q : Phase). (calm s q x).run) (sym e)

pub ended_course : (s : Run) → s.stream.phase ≡ Phase.Ended → (bs : List ℕ) → course s bs ≡ standing s
unfolding saying_bytes
ended_course s e [] = walked_out_still s (ap walks_in e)
ended_course s e (b ∷ bs) =
    let silent = calm s Phase.Ended Saying.Silent in
    byte_first s (ap walks_in e) b bs
    ∙ rw (unheard s e b) (ended_course silent.run refl bs ∙ ap standing (calm_same s Phase.Ended e Saying.Silent))

-- a byte that is no kind, where a kind is due: 132 with 9 is replied, the run has ended with its tables as they were, and nothing after is heard
unknown_heard : (s : Run) → s.stream.phase ≡ Phase.Between → (b : ℕ) → command_of b ≡ Command.Unknown →
    heard s b ≡ calm s Phase.Ended (Saying.Refused broken_stream)
unfolding heard
unknown_heard s e b u = ap (λ (p : Phase). heard_in p s b) e ∙ ap (λ (k : Command). gathered k 0 s) u

pub no_kind_ends : (s : Run) → s.stream.phase ≡ Phase.Between → (b : ℕ) → b ≢ 1 → b ≢ 2 → b ≢ 3 → b ≢ 4 → b ≢ 5 → (bs : List ℕ) →
    course s (b ∷ bs) ≡ record { run = (calm s Phase.Ended Saying.Silent).run; said = 132 ∷ 9 ∷ [] }
unfolding saying_bytes
no_kind_ends s e b n1 n2 n3 n4 n5 bs =
    let ended = (calm s Phase.Ended Saying.Silent).run in
    byte_first s (ap walks_in e) b bs
    ∙ rw (unknown_heard s e b (no_other_kind b n1 n2 n3 n4 n5)) (ap (preceded (132 ∷ 9 ∷ [])) (ended_course ended refl bs))

-- no command but an unknown one ends the run, whatever its call answered; and no step of a walk does
pub command_goes_on : (k : Command) (s : Run) → k ≢ Command.Unknown → (command_turn k s).run.stream.phase ≢ Phase.Ended
command_goes_on Command.Insert s n e = eqb-false 0 1 refl (cc)
command_goes_on Command.Remove s n e = eqb-false 0 1 refl (cc)
command_goes_on Command.Look s n e = eqb-false 0 1 refl (cc)
command_goes_on Command.Clear s n e = eqb-false 0 1 refl (cc)
command_goes_on Command.Walk s n e = eqb-false 0 1 refl (cc)
command_goes_on Command.Unknown s n e = n refl

pub walk_goes_on : (s : Run) (c : ℕ) → (walk_turn s c).run.stream.phase ≢ Phase.Ended
walk_goes_on s c =
    let o = outcome (table_of s) (ask (hop c)) in
    by o o.answer.kind
  where
    by : (o : Outcome) (k : Kind) → (walk_by s o k).run.stream.phase ≢ Phase.Ended
    by o gives e = eqb-false 0 1 refl (cc)
    by o ends e = eqb-false 0 1 refl (cc)
    by o refuses e = eqb-false 0 1 refl (cc)
