-- Feeding comes to its end: each turn takes a byte of the piece or writes one of the output. Assumes nothing.
use Prim.Native.Nat.{ℕ, ◌+◌, ◌-◌, ◌≤◌, ◌<◌}
use mathlib.Core.List.{List}
use mathlib.Core.Bool.{true}
use mathlib.Core.Path.{◌≡◌, refl}
use native.Mathlib.Omega.{arith}
use lib.ListN.{length, get_or}
use lib.Dec.{ltb}
use borrow.Author.Tests.{ltb-true, eqb-false}
use Rattle.rules.proofs.Choice.{by_pick, both_true}
use Rattle.wire.specs.Replies.{fits, replied_to}
use Rattle.wire.proofs.Output.{replied_keeps, fits_room}
use Rattle.commands.specs.Turns.{Turned, walk_turn}
use Rattle.commands.specs.declared.Phase.{Phase}
use Rattle.hearing.specs.Heard.{heard}
use Rattle.stream.specs.Feeding.{reply_of, Feeding, phase_of, following, fed_in, fed_once, waits_in, waits, going}
use Rattle.stream.proofs.Spoken.{walk_speaks}

-- the bytes of the piece and of the output that are left
abbrev pub left_of : ℕ → Feeding → ℕ
left_of n f = (n - f.taken) + (length f.out - f.written)

-- nothing written is taken back
pub not_back : (out : List ℕ) (at : ℕ) (reply : List ℕ) → at ≤ replied_to out at reply
unfolding replied_to
not_back out at reply = by_pick (λ (n : ℕ). at ≤ n) (fits (length out) at) _ _ (λ _. omega arith) (λ _. omega arith)

-- where any reply has room it is written whole
pub forth : (out : List ℕ) (at : ℕ) (reply : List ℕ) → fits (length out) at ≡ true → replied_to out at reply ≡ at + length reply
unfolding replied_to
forth out at reply h = rw h refl

-- a turn that takes a byte, and one that says something
takes : (n : ℕ) (f : Feeding) (t : Turned) → f.taken < n → left_of n (following (f.taken + 1) f.out f.written t) < left_of n f
takes n f t h = omega (arith, replied_keeps f.out f.written (reply_of t), not_back f.out f.written (reply_of t))

says : (n : ℕ) (f : Feeding) (t : Turned) → fits (length f.out) f.written ≡ true → 0 < length (reply_of t) →
    left_of n (following f.taken f.out f.written t) < left_of n f
says n f t h p =
    omega (arith, replied_keeps f.out f.written (reply_of t), forth f.out f.written (reply_of t) h, fits_room (length f.out) f.written h)

fed_less : (input : List ℕ) (f : Feeding) (p : Phase) → fits (length f.out) f.written ≡ true →
    waits_in p (ltb f.taken (length input)) ≡ true →
    left_of (length input) (fed_in p input f) < left_of (length input) f
fed_less input f Phase.Between h w = takes (length input) f (heard f.run (get_or input f.taken 0)) (ltb-true _ _ w)
fed_less input f (Phase.Gathering k got) h w = takes (length input) f (heard f.run (get_or input f.taken 0)) (ltb-true _ _ w)
fed_less input f (Phase.Walking c) h w = says (length input) f (walk_turn f.run c) h (walk_speaks f.run c)
fed_less input f Phase.Ended h w = absurd (eqb-false 0 1 refl (cc))

-- each turn leaves less to be done
pub turn_less : (input : List ℕ) (f : Feeding) → going (length input) f ≡ true → left_of (length input) (fed_once input f) < left_of (length input) f
unfolding going waits fed_once
turn_less input f g =
    let e = both_true _ _ g in
    fed_less input f (phase_of f) e.0 e.1

-- and the output as long as it was
fed_length : (input : List ℕ) (f : Feeding) (p : Phase) → length (fed_in p input f).out ≡ length f.out
fed_length input f Phase.Between = replied_keeps f.out f.written _
fed_length input f (Phase.Gathering k got) = replied_keeps f.out f.written _
fed_length input f (Phase.Walking c) = replied_keeps f.out f.written _
fed_length input f Phase.Ended = replied_keeps f.out f.written _

pub turn_length : (input : List ℕ) (f : Feeding) → length (fed_once input f).out ≡ length f.out
unfolding fed_once
turn_length input f = fed_length input f (phase_of f)
