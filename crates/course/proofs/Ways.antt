-- Bytes that lead to a state, on tables that refuse every insert: a body poured in as a row that is refused, then the way to each phase.
-- Assumes nothing.
use Prim.Native.Nat.{ℕ, suc, ◌+◌, ◌≤◌, ◌<◌}
use mathlib.Core.List.{List, [], ◌∷◌, ◌++◌, append-nil}
use mathlib.Core.Bool.{true, false}
use mathlib.Core.Path.{◌≡◌, refl, ap, ◌∙◌, subst}
use native.Mathlib.Omega.{arith}
use native.Mathlib.Nat.{zero-add}
use native.Mathlib.Numerals.{add-one}
use lib.ListN.{length, set, take, drop, replicate, take-append-drop}
use lib.Seq.{sets, sets-eq, length-take-le}
use borrow.Author.Tests.{eqb-false, lt-ltb, lt-leb}
use Rattle.rules.specs.Values.{visited}
use Rattle.rules.specs.Refusals.{◌▸◌, shape_number}
use Rattle.rules.specs.Insert.{insert_rule}
use Rattle.rules.specs.Hop.{hop_rule}
use Rattle.rules.specs.declared.Header.{Header}
use Rattle.rules.specs.declared.Key.{Key}
use Rattle.rules.proofs.Choice.{both_if}
use Rattle.history.specs.Histories.{Table, left}
use Rattle.wire.specs.declared.Command.{Command}
use Rattle.wire.specs.Words.{row_in}
use Rattle.wire.specs.Commands.{command_of, body_length, body_bytes}
use Rattle.wire.specs.Replies.{saying_bytes, longest, fits, replied, replied_to}
use Rattle.wire.proofs.Output.{replied_keeps}
use Rattle.commands.specs.Turns.{Run, walk_turn}
use Rattle.commands.specs.declared.Phase.{Phase}
use Rattle.hearing.specs.Heard.{heard, walks_in, possible_in, possible}
use Rattle.stream.specs.Feeding.{reply_of, Feeding, phase_of, following, heard_once, fed_in, fed_once, waits_in, waits, going, fed_whole, feed_number, Piece, piece, begun, feed_rule}
use Rattle.stream.proofs.Repeats.{stopped, onward}
use Rattle.stream.proofs.Spoken.{walk_speaks}
use Rattle.stream.proofs.Turns.{left_of, turn_less, forth}
use Rattle.course.specs.Pieces.{taken_of, written_of, Pieces, none, more}
use Rattle.course.proofs.Walks.{look_table}

-- the byte of a kind, and the bytes that lead from between two commands to a phase, with a body as it is
abbrev pub kind_byte : Command → ℕ
kind_byte Command.Insert = 1
kind_byte Command.Remove = 2
kind_byte Command.Look = 3
kind_byte Command.Clear = 4
kind_byte Command.Walk = 5
kind_byte Command.Unknown = 0

abbrev pub way_in : Phase → List ℕ → List ℕ
way_in Phase.Between body = []
way_in (Phase.Gathering k got) body = kind_byte k ∷ take got body
way_in (Phase.Walking c) body = 5 ∷ []
way_in Phase.Ended body = 0 ∷ []

-- these bytes lead from one run to the other, fed in pieces, none of them refused
abbrev pub Leads : Run → List ℕ → Run → Type 0
Leads s bytes s' = (written : List ℕ) × Pieces s bytes written s'

-- one piece more, before those there are
piece_more : (s s' : Run) (input out taken written : List ℕ) (p : Piece) → feed_rule s input out ≡ p → p.number ≡ 0 →
    Pieces p.run taken written s' → Pieces s (taken_of input p ++ taken) (written_of p ++ written) s'
piece_more s s' input out taken written p e =
    subst
    (λ (q : Piece). q.number ≡ 0 → Pieces q.run taken written s' → Pieces s (taken_of input q ++ taken) (written_of q ++ written) s')
    e (λ n ps. more input out n ps)

-- a turn where there is something to be done, and none where there is not
fed_on : (input : List ℕ) (f : Feeding) → going (length input) f ≡ true → fed_whole input f ≡ fed_whole input (fed_once input f)
unfolding fed_whole
fed_on input f h =
    onward (going (length input)) (fed_once input) (left_of (length input)) (turn_less input)
    (length input + length f.out) (length input + length (fed_once input f).out) f h (omega arith) (omega arith)

fed_off : (input : List ℕ) (f : Feeding) → going (length input) f ≡ false → fed_whole input f ≡ f
unfolding fed_whole
fed_off input f h = stopped (going (length input)) (fed_once input) (length input + length f.out) f h

-- without a byte to hear nothing is to be done, but for a walk
no_byte : (p : Phase) → walks_in p ≡ false → waits_in p false ≡ false
no_byte Phase.Between e = refl
no_byte (Phase.Gathering k got) e = refl
no_byte (Phase.Walking c) e = absurd (eqb-false 0 1 refl (cc))
no_byte Phase.Ended e = refl

-- where no walk is under way, a turn hears a byte
turn_hears : (p : Phase) (input : List ℕ) (f : Feeding) → walks_in p ≡ false → fed_in p input f ≡ heard_once input f
turn_hears Phase.Between input f e = refl
turn_hears (Phase.Gathering k got) input f e = refl
turn_hears (Phase.Walking c) input f e = absurd (eqb-false 0 1 refl (cc))
turn_hears Phase.Ended input f e = refl

-- the first body
abbrev pub zeros : List ℕ
zeros = replicate body_bytes 0

-- the smallest output that a feed takes
abbrev small : List ℕ
small = replicate longest 0

-- one byte fed alone, in a phase that hears it
module _ (s : Run) (b : ℕ) (hears : waits_in s.stream.phase true ≡ true) (still : walks_in s.stream.phase ≡ false) where
  first_turn : fed_whole (b ∷ []) (begun s small) ≡ fed_whole (b ∷ []) (following 1 small 0 (heard s b))
  unfolding going waits fits fed_once
  first_turn = fed_on (b ∷ []) (begun s small) hears ∙ ap (fed_whole (b ∷ [])) (turn_hears s.stream.phase (b ∷ []) (begun s small) still)

  byte_alone : walks_in (heard s b).run.stream.phase ≡ false → fed_whole (b ∷ []) (begun s small) ≡ following 1 small 0 (heard s b)
  unfolding going waits
  byte_alone e =
      let f = following 1 small 0 (heard s b) in
      first_turn ∙ fed_off (b ∷ []) f (both_if (fits (length f.out) f.written) (waits 1 f) (λ _. no_byte (phase_of f) e))

  module _ (number : feed_number s.links s.rows s.stream longest ≡ 0) where
    by_byte : (f : Feeding) → fed_whole (b ∷ []) (begun s small) ≡ f → f.taken ≡ 1 → (taken : List ℕ) (s' : Run) → Leads f.run taken s' →
        Leads s (b ∷ taken) s'
    unfolding feed_rule
    by_byte f e one taken s' ps =
        let whole : feed_rule s (b ∷ []) small ≡ piece 1 f = rw (number, e) refl in
        (_, rw one at (piece_more s s' (b ∷ []) small taken ps.0 (piece 1 f) whole refl ps.1))

    hear : walks_in (heard s b).run.stream.phase ≡ false → (taken : List ℕ) (s' : Run) → Leads (heard s b).run taken s' → Leads s (b ∷ taken) s'
    hear e taken s' ps = by_byte (following 1 small 0 (heard s b)) (byte_alone e) refl taken s' ps

-- tables of the right shape with a header, on which insert is refused whatever the row
module _ (l r : List ℕ) (hd : Header) (shape : shape_number l r hd ≡ 0)
    (declines : (row : List ℕ) → left (insert_rule l r hd row) ≡ record { links = l; rows = r; header = hd }) where
  abbrev at : Phase → List ℕ → Run
  at p body = record { links = l; rows = r; stream = record { header = hd; phase = p; body = body } }

  number : (p : Phase) (body : List ℕ) → possible_in p hd ≡ true → feed_number l r (at p body).stream longest ≡ 0
  unfolding feed_number possible ◌▸◌
  number p body e = rw (shape, e) refl

  -- a byte of a body that is not its last
  heard_body : (k : Command) (got : ℕ) (body : List ℕ) (b : ℕ) → suc got < body_length k →
      (heard (at (Phase.Gathering k got) body) b).run ≡ at (Phase.Gathering k (suc got)) (set body got b)
  unfolding heard
  heard_body k got body b h = rw (add-one got, lt-ltb (suc got) (body_length k) h) refl

  -- the last of a row
  heard_row : (got : ℕ) (body : List ℕ) (b : ℕ) → suc got ≡ body_bytes →
      (heard (at (Phase.Gathering Command.Insert got) body) b).run ≡ at Phase.Between (set body got b)
  unfolding heard
  heard_row got body b h =
      rw (add-one got, h)
      (ap (λ (t : Table). record { links = t.links; rows = t.rows; stream = record { header = t.header; phase = Phase.Between; body = set body got b } })
      (declines (row_in (set body got b))))

  -- bytes of a body, and a whole row
  gather : (k : Command) (bs : List ℕ) (got : ℕ) (body : List ℕ) → got + length bs < body_length k → (taken : List ℕ) (s' : Run) →
      Leads (at (Phase.Gathering k (got + length bs)) (sets body got bs)) taken s' → Leads (at (Phase.Gathering k got) body) (bs ++ taken) s'
  gather k [] got body h taken s' ps = subst (λ (n : ℕ). Leads (at (Phase.Gathering k n) body) taken s') (omega arith) ps
  gather k (b ∷ bs) got body h taken s' ps =
      let s = at (Phase.Gathering k got) body in
      let next = heard_body k got body b (omega arith) in
      let same : got + suc (length bs) ≡ suc got + length bs = omega arith in
      hear s b refl refl (number (Phase.Gathering k got) body (lt-ltb got (body_length k) (omega arith))) (rw next refl) (bs ++ taken) s'
      (rw next (gather k bs (suc got) (set body got b) (omega arith) taken s' (rw same at ps)))

  pour : (bs : List ℕ) (got : ℕ) (body : List ℕ) → got + length bs ≡ body_bytes → got < body_bytes → (taken : List ℕ) (s' : Run) →
      Leads (at Phase.Between (sets body got bs)) taken s' → Leads (at (Phase.Gathering Command.Insert got) body) (bs ++ taken) s'
  pour [] got body h j taken s' ps = absurd (omega arith)
  pour (b ∷ []) got body h j taken s' ps =
      let s = at (Phase.Gathering Command.Insert got) body in
      let next = heard_row got body b (omega arith) in
      hear s b refl refl (number (Phase.Gathering Command.Insert got) body (lt-ltb got body_bytes j)) (rw next refl) taken s' (rw next ps)
  pour (b ∷ c ∷ bs) got body h j taken s' ps =
      let s = at (Phase.Gathering Command.Insert got) body in
      let next = heard_body Command.Insert got body b (omega arith) in
      hear s b refl refl (number (Phase.Gathering Command.Insert got) body (lt-ltb got body_bytes j)) (rw next refl) (c ∷ (bs ++ taken)) s'
      (rw next (pour (c ∷ bs) (suc got) (set body got b) (omega arith) (omega arith) taken s' ps))

  -- from the first state to any body: a row that is refused
  pub from_start : (body : List ℕ) → length body ≡ body_bytes → (taken : List ℕ) (s' : Run) → Leads (at Phase.Between body) taken s' →
      Leads (at Phase.Between zeros) (1 ∷ (body ++ taken)) s'
  unfolding heard command_of
  from_start body e taken s' ps =
      let same : sets zeros 0 body ≡ body = sets-eq body zeros 0 (omega (arith, e)) ∙ ap (λ (n : ℕ). body ++ drop (0 + n) zeros) e ∙ append-nil body in
      hear (at Phase.Between zeros) 1 refl refl (number Phase.Between zeros refl) refl (body ++ taken) s'
      (pour body 0 zeros (omega arith) (omega arith) taken s' (rw same ps))

  -- storing the first bytes of a body changes nothing
  same_body : (body : List ℕ) (got : ℕ) → got ≤ length body → sets body 0 (take got body) ≡ body
  same_body body got h =
      let n = length-take-le got body h in
      sets-eq (take got body) body 0 (omega arith) ∙ rw (n, zero-add got) (take-append-drop got body)

  gathered_from : (k : Command) (got : ℕ) (body : List ℕ) → length body ≡ body_bytes → got < body_length k → body_length k ≤ body_bytes →
      (heard (at Phase.Between body) (kind_byte k)).run ≡ at (Phase.Gathering k 0) body →
      Leads (at Phase.Between body) (kind_byte k ∷ take got body) (at (Phase.Gathering k got) body)
  gathered_from k got body e h j first =
      let n = length-take-le got body (omega arith) in
      let s' = at (Phase.Gathering k got) body in
      let bytes = append-nil (take got body) in
      hear (at Phase.Between body) (kind_byte k) refl refl (number Phase.Between body refl) (rw first refl) (take got body) s'
      (rw first
      (subst (λ (xs : List ℕ). Leads (at (Phase.Gathering k 0) body) xs s') bytes
      (gather k (take got body) 0 body (rw (n, zero-add got) h) [] s' (rw (n, zero-add got, same_body body got (omega arith)) ([], none)))))

  pub gathering_from : (k : Command) (got : ℕ) (body : List ℕ) → length body ≡ body_bytes → got < body_length k →
      Leads (at Phase.Between body) (kind_byte k ∷ take got body) (at (Phase.Gathering k got) body)
  unfolding heard command_of
  gathering_from Command.Insert got body e h = gathered_from Command.Insert got body e h (omega arith) refl
  gathering_from Command.Remove got body e h = gathered_from Command.Remove got body e h (omega arith) refl
  gathering_from Command.Look got body e h = gathered_from Command.Look got body e h (omega arith) refl
  gathering_from Command.Clear got body e h = absurd (omega arith)
  gathering_from Command.Walk got body e h = absurd (omega arith)
  gathering_from Command.Unknown got body e h = absurd (omega arith)

  pub ended_from : (body : List ℕ) → Leads (at Phase.Between body) (0 ∷ []) (at Phase.Ended body)
  unfolding heard command_of
  ended_from body = hear (at Phase.Between body) 0 refl refl (number Phase.Between body refl) refl [] (at Phase.Ended body) ([], none)

  -- a walk begun, whose first step shows a slot: with the smallest output the feed stops after it
  pub walking_from : (body : List ℕ) (k : Key) (c : ℕ) → (hop_rule l r hd 0).answer ≡ visited k c →
      Leads (at Phase.Between body) (5 ∷ []) (at (Phase.Walking c) body)
  unfolding heard command_of going waits fits fed_once saying_bytes replied replied_to
  walking_from body k c e =
      let s = at Phase.Between body in
      let t = walk_turn (at (Phase.Walking 0) body) 0 in
      let f : Feeding = record { run = at (Phase.Walking 0) body; taken = 1; out = small; written = 0 } in
      let g = following 1 small 0 t in
      let full : fits (length g.out) g.written ≡ false =
      rw (replied_keeps small 0 (reply_of t), forth small 0 (reply_of t) refl)
      (lt-leb (0 + length (reply_of t) + longest) longest (omega (arith, walk_speaks (at (Phase.Walking 0) body) 0))) in
      let last : going 1 g ≡ false = rw full refl in
      let all : fed_whole (5 ∷ []) (begun s small) ≡ g = first_turn s 5 refl refl ∙ fed_on (5 ∷ []) f refl ∙ fed_off (5 ∷ []) g last in
      let there : t.run ≡ at (Phase.Walking c) body =
      rw e
      (ap (λ (x : Table). record { links = x.links; rows = x.rows; stream = record { header = x.header; phase = Phase.Walking c; body = body } })
      (look_table l r hd k)) in
      by_byte s 5 refl refl (number Phase.Between body refl) g all refl [] (at (Phase.Walking c) body) (rw there ([], none))
