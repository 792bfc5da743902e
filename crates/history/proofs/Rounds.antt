-- A history in which a removed key comes back: the row of slot 1 is removed and inserted again, round after round. Assumes nothing.
use mathlib.Core.Path.{◌≡◌, refl, sym, ap, ◌∙◌, subst, fun_ext}
use mathlib.Core.List.{List, [], ◌∷◌}
use mathlib.Core.Bool.{Bool}
use Prim.Native.Nat.{ℕ, zero, suc, ◌≤◌, ◌%◌}
use native.Mathlib.Omega.{arith}
use lib.ListN.{length}
use lib.Dec.{eqb}
use borrow.Author.Tests.{eq-eqb, ne_eqb}
use Rattle.rules.specs.Choice.{pick}
use Rattle.rules.specs.Words.{lent_of, zero_row, with_bit, rise}
use Rattle.rules.specs.Values.{keyed}
use Rattle.rules.specs.Refusals.{◌▸◌, lent_number, side_number}
use Rattle.rules.specs.Start.{start_rule}
use Rattle.rules.specs.Bench.{key}
use Rattle.rules.specs.declared.Header.{Header}
use Rattle.rules.proofs.Choice.{by_test}
use Rattle.runs.specs.Points.{put}
use Rattle.runs.specs.Machine.{Machine, back_within, fronts_after}
use Rattle.runs.specs.Steps.{Step, grown_by, filled_by, insert_number_on, insert_on, freed_on, remove_on}
use Rattle.runs.specs.WholeTable.{start_on}
use Rattle.runs.specs.Tables.{Does}
use Rattle.runs.proofs.Points.{alike_same}
use Rattle.runs.proofs.Counts.{rise_even}
use Rattle.runs.proofs.Inserted.{insert_does}
use Rattle.runs.proofs.Removed.{remove_does}
use Rattle.runs.proofs.Accessed.{look_is}
use Rattle.runs.proofs.Begun.{start_does}
use Rattle.history.specs.Calls.{Row, Call, insert, remove}
use Rattle.history.specs.Histories.{Table, left, outcome, next, after, looked, Begun, Within}
use Rattle.history.specs.Events.{events, seen}
use Rattle.history.specs.Versions.{refilled, refilled_times, round}
use Rattle.history.specs.Rounds.{rounds}
use Rattle.history.proofs.Live.{Live, live_passes, look_live}
use Rattle.history.proofs.Ages.{comes_round}
use Rattle.history.proofs.Reduced.{Stands}
use Rattle.history.proofs.Beginnings.{start_begins}

-- a slot changed twice
put_again : {A : Type 0} (f : ℕ → A) (i : ℕ) (x y : A) → put (put f i x) i y ≡ put f i y
unfolding put
put_again {A} f i x y = fun_ext (λ k. by_test (λ (t : Bool). pick t y (pick t x (f k)) ≡ pick t y (f k)) (eqb k i) (λ _. refl) (λ _. refl))

-- one round before n others is one round after them
refilled_first : (n v : ℕ) → refilled_times n (refilled v) ≡ refilled (refilled_times n v)
unfolding refilled_times
refilled_first zero v = refl
refilled_first (suc n) v = ap refilled (refilled_first n v)

module _ (row : Row) (lent : ℕ) where
  -- slot 1 alone in use beside slot 0
  abbrev alone : ℕ → List ℕ → Machine
  alone v words = record { versions = put (λ _. 0) 1 v; rows = put (λ _. zero_row) 1 words; used = 2; fronts = []; lent = lent }

  abbrev filled : ℕ → Step
  filled v = record { answer = keyed (key 1 v); row = zero_row; machine = alone v row.words }

  live : (v : ℕ) → v % 2 ≡ 1 → Live (alone v row.words) (key 1 v)
  unfolding put
  live v o = record { low = omega arith; odd = o; same = refl }

  first_filled : 2 ≤ lent → insert_on (start_on lent).machine row.words ≡ filled 1
  unfolding insert_on insert_number_on side_number ◌▸◌ grown_by back_within
  first_filled two = simp (eq-eqb _ _ row.eight, ne_eqb 1 lent (λ e. omega arith))

  fills_again : (v : ℕ) → v % 2 ≡ 0 → insert_on (alone v zero_row) row.words ≡ filled (with_bit v)
  unfolding insert_on insert_number_on side_number ◌▸◌ filled_by back_within put
  fills_again v e = simp (eq-eqb _ _ row.eight, eq-eqb _ _ e, put_again)

  empties_again : (v : ℕ) → v % 2 ≡ 1 →
      remove_on (alone v row.words) (key 1 v) ≡ record { answer = keyed (key 1 v); row = row.words; machine = alone (rise v) zero_row }
  unfolding remove_on freed_on fronts_after put
  empties_again v o = simp (live_passes (alone v row.words) (key 1 v) (live v o), put_again)

  -- calls that see slot 1 emptied n times, and leave the row there under the version v
  record Leaves (t : Table) (cs : List Call) (n v : ℕ) : Type 0 where
    within : Within t cs
    count : seen 1 (events t cs) ≡ n
    stands : Stands (after t cs) (alone v row.words)

  rounds_leave : (n v : ℕ) → v % 2 ≡ 1 → (t : Table) → Stands t (alone v row.words) → Leaves t (rounds row n v) n (refilled_times n v)
  unfolding rounds refilled_times
  rounds_leave zero v o t s = record { within = tt; count = refl; stands = s }
  rounds_leave (suc n) v o t s =
      let u = next t (remove (key 1 v)) in
      let d = subst (Does (outcome t (remove (key 1 v)))) (empties_again v o) (remove_does _ _ _ _ s (key 1 v)) in
      let e = subst (Does (outcome u (insert row.words))) (fills_again (rise v) (rise_even v o)) (insert_does _ _ _ _ d.shows row.words) in
      let r = rounds_leave n (refilled v) (omega arith) (next u (insert row.words)) e.shows in
      record {
        within = (tt, (tt, r.within));
        count = simp (d.answer, e.answer, alike_same 1 1 refl) (omega (arith, r.count));
        stands = rw (sym (refilled_first n v)) r.stands;
      }

-- the history: a start on two slots or more, an insert, which hands out (1, 1), and n rounds, which slot 1 sees as n removals, that of
-- (1, 1) the first
module _ (l r : List ℕ) (hd : Header) (ok : lent_number (length l) (length r) ≡ 0) (two : 2 ≤ lent_of l) (row : Row) where
  abbrev t : Table
  t = left (start_rule l r hd)

  abbrev calls : ℕ → List Call
  calls n = insert row.words ∷ rounds row n 1

  calls_leave : (n : ℕ) → Leaves row (lent_of l) t (calls n) n (refilled_times n 1)
  calls_leave n =
      let begun = (start_does l r hd ok).shows in
      let d = subst (Does (outcome t (insert row.words))) (first_filled row (lent_of l) two) (insert_does _ _ _ _ begun row.words) in
      let e = rounds_leave row (lent_of l) n 1 refl (next t (insert row.words)) d.shows in
      record { within = (tt, e.within); count = simp d.answer (omega (arith, e.count)); stands = e.stands }

  pub rounds_begun : Begun t
  rounds_begun = start_begins l r hd ok

  pub rounds_within : (n : ℕ) → Within t (calls n)
  rounds_within n = (calls_leave n).within

  pub rounds_seen : (n : ℕ) → seen 1 (events t (calls n)) ≡ n
  rounds_seen n = (calls_leave n).count

  pub comes_back : looked (after t (calls round)) (key 1 1) ≡ row.words
  unfolding put
  comes_back =
      let m : ℕ → Machine = λ v. alone row (lent_of l) v row.words in
      let s = subst (λ (v : ℕ). Stands (after t (calls round)) (m v)) (comes_round 1 refl (omega arith)) (calls_leave round).stands in
      look_is _ _ _ _ s (key 1 1) ∙ look_live (m 1) (key 1 1) (live row (lent_of l) 1 refl)
