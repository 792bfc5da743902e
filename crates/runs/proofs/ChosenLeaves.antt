-- What the removal of the chosen leaves in a sound table, for any choice: every version and row, used, and the count, which is
-- live before less live after. So for retain and for clear. Assumes nothing.
use mathlib.Core.Path.{◌≡◌, refl, sym, ap, ◌∙◌}
use mathlib.Core.List.{List}
use mathlib.Core.Bool.{Bool, true, false}
use Prim.Native.Nat.{ℕ, ◌+◌, ◌<◌, ◌%◌}
use native.Mathlib.Decide.{ℕ_discrete}
use native.Mathlib.Omega.{arith}
use lib.ListN.{length}
use lib.Dec.{ltb}
use borrow.Author.Tests.{lt-ltb, eq-eqb}
use Rattle.rules.specs.Choice.{pick, both}
use Rattle.rules.specs.Words.{zero_row, rise, version_at, row_at, occupied_by}
use Rattle.rules.specs.Values.{Values, Outcome, plain, counted}
use Rattle.rules.specs.Refusals.{◌▸◌, side_number}
use Rattle.rules.specs.Clear.{clear_rule}
use Rattle.rules.specs.Retain.{remove_chosen, struck_by, retain_rule}
use Rattle.rules.specs.declared.Header.{Header}
use Rattle.rules.proofs.SlotTests.{occupied_no}
use Rattle.runs.specs.Machine.{Machine, live_of}
use Rattle.runs.specs.Steps.{Step, stays}
use Rattle.runs.specs.WholeTable.{remove_chosen_on, all, retain_on, clear_on}
use Rattle.runs.specs.Tables.{Shows}
use Rattle.runs.proofs.Counts.{rise_even, odd_none}
use Rattle.runs.proofs.ChosenMachine.{goes, left}
use Rattle.runs.proofs.Drained.{live_is}
use Rattle.runs.proofs.Chosen.{chosen_does, clear_does, retain_does}

-- slot i is one of those below n that go: it is live, and chosen
abbrev pub went : List ℕ → Header → (ℕ → Bool) → ℕ → ℕ → Bool
went l hd chosen n i = both (ltb i n) (both (occupied_by (version_at l hd.used) hd.used i) (chosen i))

module _ (l r : List ℕ) (hd : Header) (m : Machine) (s : Shows l r hd m) where
  module _ (chosen : ℕ → Bool) (n : ℕ) where
    abbrev o : Outcome
    o = remove_chosen chosen n (plain (counted 0) hd l r)

    shown : Shows o.links o.rows o.header (remove_chosen_on chosen n m).machine
    shown = (chosen_does chosen l r hd m s n).shows

    went_is : (i : ℕ) → both (ltb i n) (goes chosen m i) ≡ went l hd chosen n i
    went_is i = ap (λ (x : Machine). both (ltb i n) (goes chosen x i)) (sym s.same)

    pub chosen_used : o.header.used ≡ hd.used
    chosen_used = ap (λ (x : Machine). x.used) shown.same ∙ (left chosen m n).used ∙ ap (λ (x : Machine). x.used) (sym s.same)

    pub chosen_version : (i : ℕ) → version_at o.links o.header.used i ≡
        pick (went l hd chosen n i) (rise (version_at l hd.used i)) (version_at l hd.used i)
    chosen_version i =
        ap (λ (x : Machine). x.versions i) shown.same ∙ (left chosen m n).versions i
        ∙ ap (λ (t : Bool). pick t (rise (m.versions i)) (m.versions i)) (went_is i)
        ∙ ap (λ (x : Machine). pick (went l hd chosen n i) (rise (x.versions i)) (x.versions i)) (sym s.same)

    pub chosen_row : (i : ℕ) → row_at o.rows o.header.used i ≡ pick (went l hd chosen n i) zero_row (row_at r hd.used i)
    chosen_row i =
        ap (λ (x : Machine). x.rows i) shown.same ∙ (left chosen m n).rows i
        ∙ ap (λ (t : Bool). pick t zero_row (m.rows i)) (went_is i)
        ∙ ap (λ (x : Machine). pick (went l hd chosen n i) zero_row (x.rows i)) (sym s.same)

    pub chosen_count : o.answer.count + o.header.live ≡ hd.live
    chosen_count =
        omega (
          arith,
          ap (λ (v : Values). v.count) (chosen_does chosen l r hd m s n).answer,
          live_is o.links o.rows o.header (remove_chosen_on chosen n m).machine shown,
          (left chosen m n).count,
          live_is l r hd m s,
        )

  -- retain's count is live before less live after
  pub retain_count : (bytes : List ℕ) → length bytes ≡ hd.used → (retain_rule l r hd bytes).answer.count + (retain_rule l r hd bytes).header.live ≡ hd.live
  unfolding retain_on side_number ◌▸◌
  retain_count bytes e =
      let d = retain_does l r hd m s bytes in
      let u : length bytes ≡ m.used = e ∙ ap (λ (x : Machine). x.used) s.same in
      let a = remove_chosen_on (struck_by bytes) m.used m in
      let t : retain_on m bytes ≡ stays a.machine (counted a.count) = simp (eq-eqb _ _ u) in
      omega (
        arith,
        ap (λ (v : Values). v.count) d.answer ∙ ap (λ (x : Step). x.answer.count) t,
        live_is _ _ _ _ d.shows ∙ ap (λ (x : Step). live_of x.machine) t,
        (left (struck_by bytes) m m.used).count,
        live_is l r hd m s,
      )

  -- clear: every version that was odd has risen, every row of such a slot is zero
  pub clear_version : (i : ℕ) → version_at (clear_rule l r hd).links (clear_rule l r hd).header.used i ≡
      pick (went l hd all hd.used i) (rise (version_at l hd.used i)) (version_at l hd.used i)
  unfolding clear_on
  clear_version i =
      ap (λ (x : Machine). x.versions i) (clear_does l r hd m s).shows.same ∙ (left all m m.used).versions i
      ∙ ap (λ (x : Machine). pick (both (ltb i x.used) (goes all x i)) (rise (x.versions i)) (x.versions i)) (sym s.same)

  pub clear_row : (i : ℕ) → row_at (clear_rule l r hd).rows (clear_rule l r hd).header.used i ≡
      pick (went l hd all hd.used i) zero_row (row_at r hd.used i)
  unfolding clear_on
  clear_row i =
      ap (λ (x : Machine). x.rows i) (clear_does l r hd m s).shows.same ∙ (left all m m.used).rows i
      ∙ ap (λ (x : Machine). pick (both (ltb i x.used) (goes all x i)) zero_row (x.rows i)) (sym s.same)

  -- and nothing is live
  pub clear_empties : (clear_rule l r hd).header.live ≡ 0
  unfolding clear_on
  clear_empties =
      live_is _ _ _ _ (clear_does l r hd m s).shows
      ∙ odd_none emptied.versions emptied.used (λ i h. even i (omega (arith, (left all m m.used).used)) (ℕ_discrete (m.versions i % 2) 1))
    where
      emptied : Machine
      emptied = (remove_chosen_on all m.used m).machine

      even : (i : ℕ) → i < m.used → Dec (m.versions i % 2 ≡ 1) → emptied.versions i % 2 ≡ 0
      even i h (yes e) =
          let gone : emptied.versions i ≡ rise (m.versions i) =
          (left all m m.used).versions i ∙ simp (lt-ltb i m.used h, eq-eqb (m.versions i % 2) 1 e) in
          ap (λ (x : ℕ). x % 2) gone ∙ rise_even (m.versions i) e
      even i h (no n) =
          let kept : emptied.versions i ≡ m.versions i =
          (left all m m.used).versions i ∙ simp (occupied_no m.versions m.used i (λ _. omega arith)) (same (ltb i m.used)) in
          ap (λ (x : ℕ). x % 2) kept ∙ omega arith
        where
          same : (t : Bool) → pick (both t false) (rise (m.versions i)) (m.versions i) ≡ m.versions i
          same true = refl
          same false = refl
