-- Demand 3, of the stream: a run that begins with a table which start has left, and any bytes at all. The calls that the bytes make (calls) are
-- a history from the table at the beginning to the table after them, so all that Demand3 of history.specs.Demands says is said of the stream.
-- And in such a history no feed is refused, as long as its output has room for a reply. Assumes nothing.
use Prim.Native.Nat.{ℕ, ◌<◌, ◌≤◌, max}
use mathlib.Core.List.{List, [], ◌∷◌, ◌++◌, append-nil}
use mathlib.Core.Bool.{Bool, true, not}
use mathlib.Core.Path.{◌≡◌, refl, sym, ap, ◌∙◌, subst}
use lib.ListN.{length}
use lib.Dec.{eqb}
use borrow.Author.Tests.{eq-eqb, eqb-false, le-ltb}
use Rattle.rules.specs.Values.{gives, Outcome, keyed, done, refused, refusal, unless}
use Rattle.rules.specs.Refusals.{not_live, shape_number}
use Rattle.rules.specs.Choice.{pick}
use Rattle.rules.specs.Words.{row_at}
use Rattle.rules.specs.Access.{key_number, look_rule, look_row_rule}
use Rattle.rules.specs.Sound.{Sound}
use Rattle.rules.specs.declared.Header.{Header}
use Rattle.rules.specs.declared.Key.{Key}
use Rattle.rules.proofs.Choice.{by_test}
use Rattle.rules.proofs.Refusals.{skipped}
use Rattle.history.specs.Calls.{Call, ask, number, check}
use Rattle.history.specs.Histories.{Table, answer, after, answers, looked, Begun, History}
use Rattle.history.specs.Bystander.{reckoned}
use Rattle.history.specs.Events.{Event, removed, events, seen}
use Rattle.history.specs.Slots.{slots, most}
use Rattle.history.specs.Versions.{round}
use Rattle.history.specs.Refusals.{Numbers}
use Rattle.history.proofs.Demands.{demand_3}
use Rattle.wire.specs.Replies.{longest}
use Rattle.commands.specs.Turns.{Run, table_of}
use Rattle.hearing.specs.Heard.{possible}
use Rattle.stream.specs.Feeding.{feed_number, feed_rule}
use Rattle.course.specs.Course.{Course, course}
use Rattle.course.specs.Pieces.{Pieces}
use Rattle.course.specs.Calls.{calls}
use Rattle.course.proofs.Pieces.{pieces}
use Rattle.course.proofs.Possible.{pieces_possible}
use Rattle.course.proofs.Histories.{calls_lead, calls_within, walked_out_table}

module _ (s : Run) (b : Begun (table_of s)) (bs : List ℕ) where
  abbrev t : Table
  t = table_of s

  abbrev cs : List Call
  cs = calls s bs

  abbrev now : Table
  now = table_of (course s bs).run

  abbrev made : History
  made = record { first = t; begun = b; calls = cs; within = calls_within s bs }

  -- what is so after the calls is so now
  carried : (P : Table → Type 0) → P (after t cs) → P now
  carried P p = subst P (sym (calls_lead s bs)) p

  -- 1. live keys and rows
  pub keys_reckoned : (k : Key) → looked now k ≡ reckoned (looked t) cs (answers t cs) k
  keys_reckoned k = carried (λ (x : Table). looked x k ≡ reckoned (looked t) cs (answers t cs) k) (demand_3.keys_reckoned made k)

  -- 2. the chain
  pub sound : (shape_number now.links now.rows now.header ≡ 0) × Sound now.links now.header
  sound =
      carried (λ (x : Table). (shape_number x.links x.rows x.header ≡ 0) × Sound x.links x.header)
      (demand_3.shaped made, demand_3.sound made)

  pub check_passes : answer now (ask check) ≡ done
  check_passes = carried (λ (x : Table). answer x (ask check) ≡ done) (demand_3.check_passes made)

  -- 3. slots
  pub slots_law : slots now ≡ max (slots t) (most t cs)
  slots_law = carried (λ (x : Table). slots x ≡ max (slots t) (most t cs)) (demand_3.slots_law made)

  -- 4. dead keys
  pub dead : (es fs : List Event) (k : Key) → events t cs ≡ es ++ removed k ∷ fs → seen k.index (removed k ∷ fs) < round →
      answer now (ask (number k)) ≡ refused not_live
  dead es fs k at few =
      carried (λ (x : Table). answer x (ask (number k)) ≡ refused not_live) (demand_3.dead made es fs k at few)

  -- 5. numbers: of any call that comes next
  pub numbers : (c : Call) → Numbers now c
  numbers c = carried (λ (x : Table). Numbers x c) (demand_3.numbers made c)

-- the row that a look replies with, and a step of a walk, is the one that its key has
pub shown_row : (l r : List ℕ) (hd : Header) (k : Key) → (look_row_rule l r hd k).answer.kind ≡ gives → (look_row_rule l r hd k).row ≡ look_rule l r hd k
unfolding look_row_rule look_rule unless
shown_row l r hd k =
    let n = key_number l r hd k in
    let words = row_at r hd.used k.index in
    let given : Outcome = record { answer = keyed k; row = words; header = hd; links = l; rows = r } in
    by_test (λ (t : Bool). let o = pick t given (refusal l r hd n) in o.answer.kind ≡ gives → o.row ≡ pick t words []) (eqb n 0)
    (λ _ _. refl)
    (λ _ e. absurd (eqb-false 0 1 refl (cc)))

-- pieces lead to the table that the course of all their bytes leads to, in mid-walk too
pub pieces_table : {s s' : Run} {taken written : List ℕ} → Pieces s taken written s' → table_of (course s taken).run ≡ table_of s'
pieces_table {s} {s'} {taken} ps =
    ap (λ (xs : List ℕ). table_of (course s xs).run) (sym (append-nil taken))
    ∙ ap (λ (x : Course). table_of x.run) (pieces ps [])
    ∙ walked_out_table s'

-- a feed is taken where the table has its shape, the output has room and the state is possible
feeds : (s : Run) (input out : List ℕ) → shape_number s.links s.rows s.stream.header ≡ 0 → longest ≤ length out →
    possible s.stream ≡ true → (feed_rule s input out).number ≡ 0
unfolding feed_rule feed_number
feeds s input out shaped room h =
    let n : feed_number s.links s.rows s.stream (length out) ≡ 0 = skipped _ _ _ (ap not h) ∙ skipped _ _ _ (le-ltb _ _ room) ∙ shaped in
    simp (eq-eqb _ 0 n)

-- so no piece of a stream that has begun is refused, if its output has room for a reply
pub never_refused : {s s' : Run} {taken written : List ℕ} → Begun (table_of s) → possible s.stream ≡ true → Pieces s taken written s' →
    (input out : List ℕ) → longest ≤ length out → (feed_rule s' input out).number ≡ 0
never_refused {s} {s'} {taken} b h ps input out room =
    let shaped = subst (λ (x : Table). shape_number x.links x.rows x.header ≡ 0) (pieces_table ps) (sound s b taken).0 in
    feeds s' input out shaped room (pieces_possible ps h)
