-- A feed that is not refused leaves a state that the next feed takes, on any tables. Assumes nothing.
use Prim.Native.Nat.{ℕ, ◌+◌, zero, suc}
use mathlib.Core.List.{List}
use mathlib.Core.Bool.{Bool, true}
use mathlib.Core.Path.{◌≡◌, refl, ap}
use native.Mathlib.Omega.{arith}
use lib.ListN.{length, get_or}
use lib.Dec.{ltb, eqb, leb}
use borrow.Author.Tests.{not-false, ne_eqb, le-leb, ltb-false, eqb-false}
use Rattle.rules.specs.Values.{Kind, gives, ends, refuses, Outcome}
use Rattle.rules.specs.declared.Header.{Header}
use Rattle.rules.proofs.Choice.{by_pick, both_true}
use Rattle.rules.proofs.Refusals.{passed}
use Rattle.history.specs.Calls.{ask, hop}
use Rattle.history.specs.Histories.{Table, outcome}
use Rattle.wire.specs.declared.Command.{Command}
use Rattle.wire.specs.Commands.{command_of, body_length}
use Rattle.commands.specs.Turns.{Run, Turned, table_of, command_turn, walk_by, walk_turn}
use Rattle.commands.specs.declared.Phase.{Phase}
use Rattle.hearing.specs.Heard.{gathered, with_byte, heard_in, heard, possible_in, possible, walks_in, cursor_in}
use Rattle.stream.specs.Feeding.{Feeding, phase_of, fed_in, fed_once, going, fed_whole, begun, feed_number, feed_rule, heard_once, waits}
use Rattle.stream.proofs.Repeats.{kept}
use Rattle.course.proofs.Walks.{Further, hop_further, walk_table}
use Rattle.course.proofs.FedTurns.{unrefused, fed_to_end}
use mathlib.Core.Logic.{◌≢◌}
use native.Mathlib.Nat.{add-zero}
use Rattle.wire.specs.declared.Saying.{Saying}
use Rattle.wire.specs.Replies.{saying_bytes, longest, fits, replied, replied_to}
use Rattle.commands.specs.declared.Stream.{Stream}
use Rattle.course.specs.Pieces.{Pieces, none, more}
use Rattle.rules.specs.Choice.{both, either}

-- the test, with a walk at its start let through as well: between two turns of one feed there may be one
abbrev passing_in : Phase → Header → Bool
passing_in Phase.Between hd = true
passing_in (Phase.Gathering k got) hd = ltb got (body_length k)
passing_in (Phase.Walking c) hd = either (eqb c 0) (both (leb 2 c) (leb c hd.used))
passing_in Phase.Ended hd = true

abbrev passing : Stream → Bool
passing x = passing_in x.phase x.header

test_passes : (p : Phase) (hd : Header) → possible_in p hd ≡ true → passing_in p hd ≡ true
test_passes Phase.Between hd e = refl
test_passes (Phase.Gathering k got) hd e = e
test_passes (Phase.Walking c) hd e = by_pick (λ (t : Bool). t ≡ true) (eqb c 0) true _ (λ _. refl) (λ _. e)
test_passes Phase.Ended hd e = refl

passes_test : (p : Phase) (hd : Header) → passing_in p hd ≡ true → p ≢ Phase.Walking 0 → possible_in p hd ≡ true
passes_test Phase.Between hd e n = refl
passes_test (Phase.Gathering k got) hd e n = e
passes_test (Phase.Walking zero) hd e n = absurd (n refl)
passes_test (Phase.Walking (suc c)) hd e n = rw (ne_eqb (suc c) 0 (λ z. omega arith)) at e
passes_test Phase.Ended hd e n = refl

-- the state that a turn leaves passes
abbrev Passing : Turned → Type 0
Passing t = passing t.run.stream ≡ true

-- a command whose body is whole, or still has a byte to come
command_passing : (k : Command) (s : Run) → Passing (command_turn k s)
command_passing Command.Insert s = refl
command_passing Command.Remove s = refl
command_passing Command.Look s = refl
command_passing Command.Clear s = refl
command_passing Command.Walk s = refl
command_passing Command.Unknown s = refl

gathered_passing : (k : Command) (got : ℕ) (s : Run) → Passing (gathered k got s)
gathered_passing k got s = by_pick Passing (ltb got (body_length k)) _ _ (λ e. e) (λ _. command_passing k s)

heard_passing : (s : Run) (b : ℕ) → passing s.stream ≡ true → Passing (heard s b)
unfolding heard
heard_passing s b h = by s.stream.phase h
  where
    by : (p : Phase) → passing_in p s.stream.header ≡ true → Passing (heard_in p s b)
    by Phase.Between e = gathered_passing (command_of b) 0 s
    by (Phase.Gathering k got) e = gathered_passing k (got + 1) (with_byte s got b)
    by (Phase.Walking c) e = e
    by Phase.Ended e = refl

-- a walk that goes on stands after a slot in use
further_passing : (c used c' : ℕ) (hd : Header) → Further c used c' → hd.used ≡ used → passing_in (Phase.Walking c') hd ≡ true
further_passing c used c' hd f e =
    let some : c' ≡ 0 → ⊥ = λ z. omega (arith, f.past) in
    simp (ne_eqb c' 0 some, le-leb 2 c' f.past, le-leb c' hd.used (omega (arith, f.within)))

module _ (s : Run) (c : ℕ) where
  abbrev o : Outcome
  o = outcome (table_of s) (ask (hop c))

  walk_by_passing : (k : Kind) → o.answer.kind ≡ k → table_of (walk_by s o k).run ≡ table_of s → Passing (walk_by s o k)
  walk_by_passing gives e same =
      further_passing c s.stream.header.used o.answer.cursor (walk_by s o gives).run.stream.header
      (hop_further s.links s.stream.header c s.rows e)
      (ap (λ (t : Table). t.header.used) same)
  walk_by_passing ends e same = refl
  walk_by_passing refuses e same = refl

  walk_passing : Passing (walk_turn s c)
  walk_passing = walk_by_passing o.answer.kind refl (walk_table s c)

-- each turn of a feed, and all of them
once_passing : (input : List ℕ) (f : Feeding) → passing f.run.stream ≡ true → passing (fed_once input f).run.stream ≡ true
unfolding fed_once
once_passing input f h = by (phase_of f)
  where
    by : (p : Phase) → passing (fed_in p input f).run.stream ≡ true
    by Phase.Between = heard_passing f.run (get_or input f.taken 0) h
    by (Phase.Gathering k got) = heard_passing f.run (get_or input f.taken 0) h
    by (Phase.Walking c) = walk_passing f.run c
    by Phase.Ended = heard_passing f.run (get_or input f.taken 0) h

feed_passing : (s : Run) (input out : List ℕ) → (feed_rule s input out).number ≡ 0 → passing (feed_rule s input out).run.stream ≡ true
unfolding fed_whole feed_number possible
feed_passing s input out e =
    let u = unrefused s input out e in
    rw u.1
    (kept (going (length input)) (fed_once input) (λ (f : Feeding). passing f.run.stream ≡ true) (λ f _ h. once_passing input f h)
    (length input + length out) (begun s out) (test_passes s.stream.phase s.stream.header (not-false _ (passed _ _ _ (omega arith) u.0).1)))

-- a turn that begins a walk, or finds one under way, says nothing
abbrev Quiet : Turned → Type 0
Quiet t = walks_in t.run.stream.phase ≡ true → t.saying ≡ Saying.Silent

command_quiet : (k : Command) (s : Run) → Quiet (command_turn k s)
command_quiet Command.Insert s e = absurd (eqb-false 0 1 refl (cc))
command_quiet Command.Remove s e = absurd (eqb-false 0 1 refl (cc))
command_quiet Command.Look s e = absurd (eqb-false 0 1 refl (cc))
command_quiet Command.Clear s e = absurd (eqb-false 0 1 refl (cc))
command_quiet Command.Walk s e = refl
command_quiet Command.Unknown s e = absurd (eqb-false 0 1 refl (cc))

gathered_quiet : (k : Command) (got : ℕ) (s : Run) → Quiet (gathered k got s)
gathered_quiet k got s = by_pick Quiet (ltb got (body_length k)) _ _ (λ _ _. refl) (λ _. command_quiet k s)

heard_quiet : (s : Run) (b : ℕ) → Quiet (heard s b)
unfolding heard
heard_quiet s b = by s.stream.phase
  where
    by : (p : Phase) → Quiet (heard_in p s b)
    by Phase.Between = gathered_quiet (command_of b) 0 s
    by (Phase.Gathering k got) = gathered_quiet k (got + 1) (with_byte s got b)
    by (Phase.Walking c) = λ _. refl
    by Phase.Ended = λ _. refl

-- no step of a walk leaves it at its start
walk_by_on : (s : Run) (c : ℕ) (k : Kind) → (outcome (table_of s) (ask (hop c))).answer.kind ≡ k →
    (walk_by s (outcome (table_of s) (ask (hop c))) k).run.stream.phase ≢ Phase.Walking 0
walk_by_on s c gives e q = absurd (omega (arith, (hop_further s.links s.stream.header c s.rows e).past, ap cursor_in q))
walk_by_on s c ends e q = absurd (eqb-false 0 1 refl (cc))
walk_by_on s c refuses e q = absurd (eqb-false 0 1 refl (cc))

-- where a walk stands at its start, there is room for its first step
abbrev Room : Feeding → Type 0
Room f = phase_of f ≡ Phase.Walking 0 → fits (length f.out) f.written ≡ true

heard_room : (input : List ℕ) (f : Feeding) → fits (length f.out) f.written ≡ true → Room (heard_once input f)
unfolding replied replied_to saying_bytes
heard_room input f h e =
    let b = get_or input f.taken 0 in
    rw (heard_quiet f.run b (ap walks_in e), h, add-zero f.written) h

once_room : (input : List ℕ) (f : Feeding) → going (length input) f ≡ true → Room f → Room (fed_once input f)
unfolding going fed_once
once_room input f g _ = by (phase_of f)
  where
    by : (p : Phase) → Room (fed_in p input f)
    by Phase.Between = heard_room input f (both_true _ _ g).0
    by (Phase.Gathering k got) = heard_room input f (both_true _ _ g).0
    by (Phase.Walking c) = λ q. absurd (walk_by_on f.run c _ refl q)
    by Phase.Ended = heard_room input f (both_true _ _ g).0

-- no feed that is not refused leaves a walk at its start: what hears its kind has room for its first step
start_not_left : (s : Run) (input out : List ℕ) → (feed_rule s input out).number ≡ 0 →
    (feed_rule s input out).run.stream.phase ≢ Phase.Walking 0
unfolding fed_whole feed_number going waits fits
start_not_left s input out e q =
    let u = unrefused s input out e in
    let f = fed_whole input (begun s out) in
    let there : phase_of f ≡ Phase.Walking 0 = rw u.1 at q in
    let room : fits (length out) 0 ≡ true = le-leb (0 + longest) (length out) (ltb-false _ _ (passed _ _ _ (omega arith) (passed _ _ _ (omega arith) u.0).0).1) in
    let last = kept (going (length input)) (fed_once input) Room (once_room input) (length input + length out) (begun s out) (λ _. room) there in
    let goes : going (length input) f ≡ true = rw (last, there) refl in
    absurd (eqb-false 0 1 refl (cc (goes, fed_to_end input (begun s out))))

-- so a feed leaves a state that the next one takes, and so do pieces, however many
pub feed_possible : (s : Run) (input out : List ℕ) → (feed_rule s input out).number ≡ 0 → possible (feed_rule s input out).run.stream ≡ true
unfolding possible
feed_possible s input out e = passes_test _ _ (feed_passing s input out e) (start_not_left s input out e)

pub pieces_possible : {s s' : Run} {taken written : List ℕ} → Pieces s taken written s' → possible s.stream ≡ true → possible s'.stream ≡ true
pieces_possible none h = h
pieces_possible {s} (more input out e ps) h = pieces_possible ps (feed_possible s input out e)
