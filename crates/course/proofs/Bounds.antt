-- A feed takes no more than its piece has and writes no more than its output holds, refused or not; and so the end of the input. Assumes nothing.
use Prim.Native.Nat.{ℕ, ◌+◌, ◌≤◌}
use mathlib.Core.List.{List}
use mathlib.Core.Path.{◌≡◌, refl, sym, ◌∙◌, subst}
use native.Mathlib.Omega.{arith}
use lib.ListN.{length, get_or}
use lib.Dec.{eqb}
use Rattle.rules.proofs.Choice.{by_pick}
use Rattle.wire.specs.Replies.{longest, fits, replied_to}
use Rattle.wire.proofs.Output.{replied_keeps, fits_room}
use Rattle.commands.specs.Turns.{Run}
use Rattle.commands.specs.declared.Phase.{Phase}
use Rattle.hearing.specs.Heard.{ended_of}
use Rattle.stream.specs.Feeding.{reply_of, Feeding, Piece, phase_of, fed_in, fed_once, going, fed_whole, begun, feed_number, feed_rule, finish_rule}
use Rattle.stream.proofs.Repeats.{kept}
use Rattle.stream.proofs.Spoken.{heard_fits, walk_fits, ended_fits}
use Rattle.stream.proofs.Turns.{turn_length}
use Rattle.course.proofs.FedTurns.{whole_fed}

-- a reply ends within the output
reply_within : (out : List ℕ) (at : ℕ) (reply : List ℕ) → at ≤ length out → length reply ≤ longest → replied_to out at reply ≤ length out
unfolding replied_to
reply_within out at reply h j =
    by_pick (λ (n : ℕ). n ≤ length out) (fits (length out) at) _ _ (λ e. omega (arith, fits_room (length out) at e)) (λ _. h)

-- and so does that of a turn
once_within : (input : List ℕ) (f : Feeding) → f.written ≤ length f.out → (fed_once input f).written ≤ length f.out
unfolding fed_once
once_within input f h = by (phase_of f)
  where
    by : (p : Phase) → (fed_in p input f).written ≤ length f.out
    by Phase.Between = reply_within f.out f.written _ h (heard_fits f.run (get_or input f.taken 0))
    by (Phase.Gathering k got) = reply_within f.out f.written _ h (heard_fits f.run (get_or input f.taken 0))
    by (Phase.Walking c) = reply_within f.out f.written _ h (walk_fits f.run c)
    by Phase.Ended = reply_within f.out f.written _ h (heard_fits f.run (get_or input f.taken 0))

module _ (s : Run) (input out : List ℕ) where
  abbrev Room : Feeding → Type 0
  Room f = (length f.out ≡ length out) × (f.written ≤ length out)

  whole_within : Room (fed_whole input (begun s out))
  unfolding fed_whole
  whole_within =
      kept (going (length input)) (fed_once input) Room
      (λ f _ h. (turn_length input f ∙ h.0, subst (λ (n : ℕ). (fed_once input f).written ≤ n) h.0 (once_within input f (omega (arith, h.0, h.1)))))
      (length input + length out) (begun s out) (refl, omega arith)

-- a feed takes of its piece and writes within its output
pub feed_within : (s : Run) (input out : List ℕ) (p : Piece) → p ≡ feed_rule s input out → (p.taken ≤ length input) × (p.written ≤ length p.out)
unfolding feed_rule
feed_within s input out p e =
    subst (λ (q : Piece). (q.taken ≤ length input) × (q.written ≤ length q.out)) (sym e)
    (by_pick (λ (q : Piece). (q.taken ≤ length input) × (q.written ≤ length q.out)) (eqb (feed_number s.links s.rows s.stream (length out)) 0) _ _
    (λ _. ((whole_fed s input out).within, omega (arith, (whole_within s input out).0, (whole_within s input out).1)))
    (λ _. (omega arith, omega arith)))

-- and so does the end of the input
pub finish_within : (s : Run) (out : List ℕ) (p : Piece) → p ≡ finish_rule s out → p.written ≤ length p.out
unfolding finish_rule
finish_within s out p e =
    let x = ended_of s in
    subst (λ (q : Piece). q.written ≤ length q.out) (sym e)
    (by_pick (λ (q : Piece). q.written ≤ length q.out) (eqb (feed_number s.links s.rows s.stream (length out)) 0) _ _
    (λ _. omega (arith, replied_keeps out 0 (reply_of x), reply_within out 0 (reply_of x) (omega arith) (ended_fits s)))
    (λ _. omega arith))
