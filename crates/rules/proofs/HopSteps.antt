-- The hop step by document 01's sentences: at or past used; at an occupied slot; inside a run; over the run of a vacant one.
-- Assumes nothing.
use Prim.Native.Nat.{ℕ, ◌+◌, ◌-◌, ◌≤◌, ◌<◌}
use mathlib.Core.List.{List}
use mathlib.Core.Bool.{Bool, true, false, not}
use mathlib.Core.Path.{◌≡◌, refl, ap}
use lib.Dec.{ltb, eqb}
use borrow.Author.Tests.{le-leb, lt-leb, le-ltb, lt-ltb}
use Rattle.rules.specs.Choice.{pick, both, either}
use Rattle.rules.specs.Words.{version_at, other_end_at, vacant_at, occupied_at}
use Rattle.rules.specs.Values.{Values, answer_unless, done, refused}
use Rattle.rules.specs.Refusals.{◌▸◌, passes, damaged, stale_cursor}
use Rattle.rules.specs.Runs.{past_front}
use Rattle.rules.specs.Hop.{visit, hop_number, hop_answer, hop_from}
use Rattle.rules.specs.declared.Header.{Header}
use Rattle.rules.proofs.Links.{vacant, occupied, not_vacant, not_occupied, past_used}

-- the last test of the chain, taken where its parts are
last_test : (end next : Bool) (v : Values) →
    pick end done (pick next v (refused damaged)) ≡ answer_unless (passes ▸ (not (either next end), damaged)) (pick end done v)
unfolding ◌▸◌
last_test true true v = refl
last_test true false v = refl
last_test false true v = refl
last_test false false v = refl

-- a slot that is not vacant is in no run
not_past_front : (l : List ℕ) (used i : ℕ) → vacant_at l used i ≡ false → past_front (version_at l used) used i ≡ false
unfolding past_front vacant_at
not_past_front l used i e = ap (λ (t : Bool). both t (both (ltb 0 i) (vacant_at l used (i - 1)))) e

module _ (l : List ℕ) (hd : Header) (c : ℕ) where
  pub at_end : hd.used ≤ c → done ≡ hop_from l hd c
  unfolding hop_from hop_number hop_answer ◌▸◌
  at_end h =
      let v = (past_used l hd.used c h).0 in
      simp (not_past_front l hd.used c v, v, le-leb hd.used c h)

  pub at_occupied : occupied_at l hd.used c ≡ true → visit l hd.used c ≡ hop_from l hd c
  unfolding hop_from hop_number hop_answer ◌▸◌
  at_occupied e =
      let o = occupied l hd.used c e in
      let v = not_vacant l hd.used c o in
      simp (not_past_front l hd.used c v, v, e, lt-leb hd.used c o.below)

  pub inside_run : past_front (version_at l hd.used) hd.used c ≡ true → refused stale_cursor ≡ hop_from l hd c
  unfolding hop_from hop_number ◌▸◌
  inside_run e = simp e

  -- slot c is the front of a run to back
  pub over_run : (back : ℕ) → back ≡ other_end_at l hd.used c → vacant_at l hd.used c ≡ true → past_front (version_at l hd.used) hd.used c ≡ false → vacant_at l hd.used back ≡ true → c ≤ back →
      pick (eqb (back + 1) hd.used) done (pick (occupied_at l hd.used (back + 1)) (visit l hd.used (back + 1)) (refused damaged)) ≡ hop_from l hd c
  unfolding hop_from hop_number hop_answer ◌▸◌
  over_run back b e p f h =
      let v = vacant l hd.used c e in
      simp (← b, p, e, f, le-ltb back c h, not_occupied l hd.used c v, lt-leb hd.used c v.below)
      (last_test (eqb (back + 1) hd.used) (occupied_at l hd.used (back + 1)) (visit l hd.used (back + 1)))

  -- its back goes astray, or stands before it
  pub astray_back : (back : ℕ) → back ≡ other_end_at l hd.used c → vacant_at l hd.used c ≡ true → past_front (version_at l hd.used) hd.used c ≡ false →
      vacant_at l hd.used back ≡ false → refused damaged ≡ hop_from l hd c
  unfolding hop_from hop_number ◌▸◌
  astray_back back b e p f = simp (← b, p, e, f)

  pub before_cursor : (back : ℕ) → back ≡ other_end_at l hd.used c → vacant_at l hd.used c ≡ true → past_front (version_at l hd.used) hd.used c ≡ false →
      vacant_at l hd.used back ≡ true → back < c → refused damaged ≡ hop_from l hd c
  unfolding hop_from hop_number ◌▸◌
  before_cursor back b e p f h = simp (← b, p, e, f, lt-ltb back c h)

-- what the code of the hop step needs
pub ruleset hops = (at_end, at_occupied, inside_run, over_run, astray_back, before_cursor)
