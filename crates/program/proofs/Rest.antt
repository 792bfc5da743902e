-- Bytes of the buffers: how long the rest of a piece is, and that what was taken of it and what was replied lie within. Assumes nothing.
use Prim.Native.Nat.{ℕ, ◌+◌, ◌-◌, ◌≤◌}
use mathlib.Core.Bool.{Bool, true, false}
use mathlib.Core.List.{List}
use mathlib.Core.Path.{◌≡◌, ap, sym, subst, ◌∙◌}
use Rattle.std.specs.Prelude.{Result, Ok, Err, MatchResult, IsErrAnd}
use native.Mathlib.Omega.{arith}
use lib.ListN.{length, take, drop, length-take, length-drop}
use Rattle.rules.specs.declared.Refusal.{Refusal}
use Rattle.commands.specs.declared.Phase.{Phase}
use Rattle.commands.specs.declared.Stream.{Stream}
use Rattle.commands.specs.Turns.{Run}
use Rattle.stream.specs.declared.Fed.{Fed}
use Rattle.stream.specs.Feeding.{fed, feed_rule, finish_rule}
use Rattle.course.proofs.Bounds.{feed_within, finish_within}
use Rattle.program.specs.Places.{InBuffer, next_after}

pub rest_length : (input : List ℕ) (at end : ℕ) → end ≤ length input → length (take (end - at) (drop at input)) ≡ end - at
rest_length input at end h = simp (length-take, length-drop) (omega arith)

-- what comes after a piece that took no more than was left lies in the buffer
pub next_in_buffer : (at end taken : ℕ) (waits : Bool) (p : Phase) (room : ℕ) → at + taken ≤ end → end ≤ room → InBuffer (next_after at end taken waits p) room
next_in_buffer at end taken true Phase.Between room h j = (h, j)
next_in_buffer at end taken false Phase.Between room h j = tt
next_in_buffer at end taken true (Phase.Gathering k got) room h j = (h, j)
next_in_buffer at end taken false (Phase.Gathering k got) room h j = tt
next_in_buffer at end taken true (Phase.Walking c) room h j = (h, j)
next_in_buffer at end taken false (Phase.Walking c) room h j = tt
next_in_buffer at end taken waits Phase.Ended room h j = tt

-- where a failure is told otherwise, a value is the value that was there
kept : {T E D : Type 0} → Result T D → T → Result T E
kept (Ok z) y = Ok z
kept (Err d) y = Ok y

pub kept_value : {T E D : Type 0} (r : Result T E) (m : Result T D) (Q : E → D → Type 0) (x : T) → MatchResult r (λ y. m ≡ Ok y) (λ e. IsErrAnd m (Q e)) → m ≡ Ok x → r ≡ Ok x
unfolding kept
kept_value (Ok y) m Q x is e = ap (λ q. kept q y) (sym is ∙ e)
kept_value (Err d) m Q x is e = absurd (subst (λ q. IsErrAnd q (Q d)) e is)

-- what was fed lies within the piece, and what was replied within the output
pub fed_within : (s : Stream) (l r input out w : List ℕ) (q : Run) (a : Result Fed Refusal) (f : Fed) → fed s a l r w ≡ feed_rule q input out → a ≡ Ok f → (f.taken ≤ length input) × (f.written ≤ length w)
fed_within s l r input out w q a f is e = feed_within q input out _ (ap (λ b. fed s b l r w) (sym e) ∙ is)

-- and at the end of the input
pub ended_within : (s : Stream) (l r out w : List ℕ) (q : Run) (a : Result Fed Refusal) (f : Fed) → fed s a l r w ≡ finish_rule q out → a ≡ Ok f → f.written ≤ length w
ended_within s l r out w q a f is e = finish_within q out _ (ap (λ b. fed s b l r w) (sym e) ∙ is)
