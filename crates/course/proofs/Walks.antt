-- A walk on any tables: each step leaves the tables as they were and the cursor further on, so the walk comes to its end. Assumes nothing.
use Prim.Native.Nat.{ℕ, zero, suc, ◌+◌, ◌-◌, ◌≤◌, ◌<◌, ◌%◌}
use mathlib.Core.List.{List, append-nil, append_assoc}
use mathlib.Core.Bool.{Bool, true, false}
use mathlib.Core.Path.{◌≡◌, refl, sym, ap, ◌∙◌}
use native.Mathlib.Omega.{arith}
use lib.Dec.{eqb, leb}
use borrow.Author.Tests.{ltb-false, leb-false, eqb-true, eqb-false, not-false}
use Rattle.rules.specs.Choice.{either}
use Rattle.rules.specs.Words.{is_odd, version_at, other_end_at, occupied_at}
use Rattle.rules.specs.Values.{Kind, gives, ends, refuses, Values, Outcome, unless}
use Rattle.rules.specs.Refusals.{entry_number, zero_number}
use Rattle.rules.specs.Access.{look_row_rule, key_number}
use Rattle.rules.specs.Hop.{visit, hop_number, hop_answer, hop_from, hop_rule}
use Rattle.rules.specs.declared.Header.{Header}
use Rattle.rules.specs.declared.Key.{Key}
use Rattle.rules.proofs.Choice.{by_pick, by_picks, both_false}
use Rattle.rules.proofs.Refusals.{passed}
use Rattle.rules.proofs.Links.{Vacant, Occupied, occupied, else_vacant}
use Rattle.history.specs.Calls.{ask, hop}
use Rattle.history.specs.Histories.{Table, left, outcome}
use Rattle.commands.specs.Turns.{Run, table_of, walk_by, walk_turn}
use Rattle.commands.specs.declared.Phase.{Phase}
use Rattle.stream.specs.Feeding.{reply_of}
use Rattle.hearing.specs.Heard.{walks_in}
use Rattle.stream.specs.Repeats.{while}
use Rattle.course.specs.Course.{Course, standing, preceded, walks, walked_in, walked, walked_out}
use Rattle.stream.proofs.Repeats.{stopped, onward}

-- the cursor c goes on to c': further, past no slot that is not in use, and past slot 0
pub record Further (c used c' : ℕ) : Type 0 where
  pub on : c < c'
  pub within : c' ≤ used
  pub past : 2 ≤ c'

-- of two tests, one of which holds, the first, since the second does not
first_of : (a b : Bool) → either a b ≡ true → b ≡ false → a ≡ true
first_of true b e f = refl
first_of false b e f = sym f ∙ e

module _ (l : List ℕ) (hd : Header) (c : ℕ) where
  -- of an answer: where it shows a slot, the cursor goes on
  abbrev Goes : Values → Type 0
  Goes v = v.kind ≡ gives → Further c hd.used v.cursor

  module _ (even : is_odd (version_at l hd.used 0) ≡ false) where
    -- the slot that is shown is occupied, so it is not slot 0
    shown : (i : ℕ) → Occupied l hd.used i → c ≤ i → Goes (visit l hd.used i)
    shown i o h _ =
        let some : i ≡ 0 → ⊥ = λ z. eqb-false _ _ even (ap (λ (x : ℕ). version_at l hd.used x % 2) (sym z) ∙ o.odd) in
        record { on = omega arith; within = omega (arith, o.below); past = omega (arith, some) }

    -- over a run to the slot after it
    over : (back : ℕ) → hop_number l hd c back ≡ 0 → Vacant l hd.used c → eqb (back + 1) hd.used ≡ false →
        Goes (visit l hd.used (back + 1))
    unfolding hop_number
    over back n v q =
        let e₄ = passed _ _ _ (omega arith) n in
        let e₃ = passed _ _ _ (omega arith) e₄.0 in
        let occ = first_of _ _ (not-false _ (both_false _ _ e₄.1 v.test)) q in
        let behind : c ≤ back = ltb-false _ _ (both_false _ _ e₃.1 v.test) in
        shown (back + 1) (occupied l hd.used (back + 1) occ) (omega arith)

    hop_goes : Goes (hop_from l hd c)
    unfolding hop_from hop_answer
    hop_goes =
        let back = other_end_at l hd.used c in
        by_pick Goes (eqb (hop_number l hd c back) 0) _ _
        (λ n.
        by_pick Goes (leb hd.used c) _ _ (λ _ e. absurd (eqb-false 0 1 refl (cc)))
        (λ below.
        by_pick Goes (occupied_at l hd.used c) _ _ (λ o. shown c (occupied l hd.used c o) (omega arith))
        (λ o.
        by_pick Goes (eqb (back + 1) hd.used) _ _ (λ _ e. absurd (eqb-false 0 1 refl (cc)))
        (over back (eqb-true _ _ n) (else_vacant l hd.used c (leb-false _ _ below) o)))))
        (λ _ e. absurd (eqb-false 0 1 refl (cc)))

  -- a step that shows a slot: the cursor goes on
  pub hop_further : (r : List ℕ) → Goes (hop_rule l r hd c).answer
  unfolding hop_rule unless entry_number zero_number
  hop_further r =
      by_pick (λ (o : Outcome). Goes o.answer) (eqb (entry_number l r hd) 0) _ _
      (λ n. hop_goes (passed _ _ _ (omega arith) (eqb-true _ _ n)).1)
      (λ _ e. absurd (eqb-false 0 1 refl (cc)))

-- a look leaves tables and header as they were, and so does a step of a walk
pub look_table : (l r : List ℕ) (hd : Header) (k : Key) → left (look_row_rule l r hd k) ≡ record { links = l; rows = r; header = hd }
unfolding look_row_rule unless
look_table l r hd k =
    by_pick (λ (o : Outcome). left o ≡ record { links = l; rows = r; header = hd }) (eqb (key_number l r hd k) 0) _ _ (λ _. refl) (λ _. refl)

walk_by_table : (s : Run) (o : Outcome) (k : Kind) → table_of (walk_by s o k).run ≡ table_of s
walk_by_table s o gives = look_table s.links s.rows s.stream.header o.answer.key
walk_by_table s o ends = refl
walk_by_table s o refuses = refl

pub walk_table : (s : Run) (c : ℕ) → table_of (walk_turn s c).run ≡ table_of s
walk_table s c =
    let o = outcome (table_of s) (ask (hop c)) in
    walk_by_table s o o.answer.kind

-- the slots still to come in a walk, and one
abbrev steps_in : Phase → ℕ → ℕ
steps_in Phase.Between used = 0
steps_in (Phase.Gathering k got) used = 0
steps_in (Phase.Walking c) used = suc (used - c)
steps_in Phase.Ended used = 0

abbrev steps : Run → ℕ
steps s = steps_in s.stream.phase s.stream.header.used

-- fewer are to come after each step
module _ (s : Run) (c : ℕ) where
  abbrev o : Outcome
  o = outcome (table_of s) (ask (hop c))

  fewer_by : (k : Kind) → o.answer.kind ≡ k → steps (walk_by s o k).run < suc (s.stream.header.used - c)
  fewer_by gives e =
      let same = ap (λ (t : Table). t.header.used) (look_table s.links s.rows s.stream.header o.answer.key) in
      let f = hop_further s.links s.stream.header c s.rows e in
      omega (arith, f.on, f.within)
  fewer_by ends e = omega arith
  fewer_by refuses e = omega arith

  fewer : steps (walk_turn s c).run < suc (s.stream.header.used - c)
  fewer = fewer_by o.answer.kind refl

μ : Course → ℕ
μ x = steps x.run

falls : (x : Course) → walks x ≡ true → μ (walked x) < μ x
unfolding μ walked
falls x h = by x.run.stream.phase h
  where
    by : (p : Phase) → walks_in p ≡ true → steps (walked_in p x).run < steps_in p x.run.stream.header.used
    by Phase.Between e = absurd (eqb-false 0 1 refl (cc))
    by (Phase.Gathering k got) e = absurd (eqb-false 0 1 refl (cc))
    by (Phase.Walking c) e = fewer x.run c
    by Phase.Ended e = absurd (eqb-false 0 1 refl (cc))

-- what was replied before a walk stands before all that it replies
walked_after : (said : List ℕ) (x : Course) → walked (preceded said x) ≡ preceded said (walked x)
unfolding walked
walked_after said x = by x.run.stream.phase
  where
    by : (p : Phase) → walked_in p (preceded said x) ≡ preceded said (walked_in p x)
    by Phase.Between = refl
    by (Phase.Gathering k got) = refl
    by (Phase.Walking c) =
        let t = walk_turn x.run c in
        ap (λ (ys : List ℕ). record { run = t.run; said = ys }) (append_assoc said x.said (reply_of t))
    by Phase.Ended = refl

walk_after : (said : List ℕ) (n : ℕ) (x : Course) → while walks walked n (preceded said x) ≡ preceded said (while walks walked n x)
unfolding while
walk_after said zero x = refl
walk_after said (suc n) x =
    by_picks (λ (a b : Course). a ≡ preceded said b) (walks x) _ _ _ _
    (λ _. ap (while walks walked n) (walked_after said x) ∙ walk_after said n (walked x))
    (λ _. refl)

most_steps : (p : Phase) (used : ℕ) → steps_in p used ≤ suc used
most_steps Phase.Between used = omega arith
most_steps (Phase.Gathering k got) used = omega arith
most_steps (Phase.Walking c) used = omega arith
most_steps Phase.Ended used = omega arith

-- where no walk is under way, nothing is replied
pub walked_out_still : (s : Run) → walks_in s.stream.phase ≡ false → walked_out s ≡ standing s
unfolding walked_out
walked_out_still s h = stopped walks walked (suc s.stream.header.used) (standing s) h

-- where one is, its next step is replied to first
pub walked_out_step : (s : Run) (c : ℕ) → s.stream.phase ≡ Phase.Walking c →
    walked_out s ≡ preceded (reply_of (walk_turn s c)) (walked_out (walk_turn s c).run)
unfolding walked_out walked μ
walked_out_step s c e =
    let t = walk_turn s c in
    let m = suc t.run.stream.header.used in
    let first : walked (standing s) ≡ preceded (reply_of t) (standing t.run) =
    ap (λ (p : Phase). walked_in p (standing s)) e
    ∙ ap (λ (ys : List ℕ). record { run = t.run; said = ys }) (sym (append-nil (reply_of t))) in
    onward walks walked μ falls (suc s.stream.header.used) m (standing s) (ap walks_in e)
    (most_steps s.stream.phase s.stream.header.used)
    (rw first (most_steps t.run.stream.phase t.run.stream.header.used))
    ∙ ap (while walks walked m) first
    ∙ walk_after (reply_of t) m (standing t.run)
