-- The chosen removed in rising order, for any choice, on a sound table: never refused, and the machine's step. Clear and retain are
-- instances. What is left is in ChosenLeaves. Assumes nothing.
use mathlib.Core.Path.{◌≡◌, refl, sym, ap, ◌∙◌, subst}
use mathlib.Core.List.{List}
use mathlib.Core.Bool.{Bool, true}
use Prim.Native.Nat.{ℕ, zero, suc, ◌+◌}
use native.Mathlib.Omega.{arith}
use lib.ListN.{length}
use lib.Dec.{eqb}
use Rattle.rules.specs.Choice.{pick, both}
use Rattle.rules.specs.Words.{zero_row, version_at, occupied_at, occupied_by, key_at}
use Rattle.rules.specs.Values.{Values, Outcome, plain, keyed, counted, done, refused}
use Rattle.rules.specs.Refusals.{passes, shape_number, side_number, zero_number, entry_number, side_entry_number}
use Rattle.rules.specs.Remove.{remove_slot}
use Rattle.rules.specs.Check.{sound_number, check_rule}
use Rattle.rules.specs.Clear.{drain_times, clear_rule}
use Rattle.rules.specs.Retain.{remove_if, remove_chosen, struck_by, retain_number, retain_rule}
use Rattle.rules.specs.Sound.{Sound}
use Rattle.rules.specs.declared.Header.{Header}
use Rattle.rules.proofs.Choice.{by_test, both_true}
use Rattle.rules.proofs.Refusals.{passed}
use Rattle.runs.specs.Machine.{Machine, live_of, machine_of}
use Rattle.runs.specs.Steps.{stays, freed_on}
use Rattle.runs.specs.WholeTable.{Tally, remove_if_on, remove_chosen_on, drains_on, clear_on, retain_on, check_on}
use Rattle.runs.specs.Tables.{Shows, Does}
use Rattle.runs.proofs.Shown.{entry_passes, side_alone, unless_does}
use Rattle.runs.proofs.Checked.{sound_passed, sound_passes}
use Rattle.runs.proofs.DrainMachine.{drained_all}
use Rattle.runs.proofs.Drained.{headed, live_is, drains_do}
use Rattle.runs.proofs.Removed.{removal_does}

module _ (chosen : ℕ → Bool) where
  -- one slot looked at
  if_does : (o : Outcome) (s : Tally) → Does o (stays s.machine (counted s.count)) → (i : ℕ) →
      Does (remove_if chosen i o) (let t = remove_if_on chosen i s in stays t.machine (counted t.count))
  unfolding remove_if remove_if_on occupied_at
  if_does o s d i =
      let k = key_at o.links o.header.used i in
      let gone = remove_slot o.links o.rows o.header k in
      let m = s.machine in
      let taken : Tally = record { count = s.count + 1; machine = freed_on m i } in
      let same : occupied_by (version_at o.links o.header.used) o.header.used i ≡ occupied_by m.versions m.used i =
      ap (λ (x : Machine). occupied_by x.versions x.used i) d.shows.same in
      subst (λ (t : Bool). Does (pick (both t (chosen i)) (plain (counted (o.answer.count + 1)) gone.header gone.links gone.rows) o)
      (let t = remove_if_on chosen i s in stays t.machine (counted t.count))) (sym same)
      (by_test (λ (t : Bool). Does (pick t (plain (counted (o.answer.count + 1)) gone.header gone.links gone.rows) o)
      (stays (pick t taken s).machine (counted (pick t taken s).count))) (both (occupied_by m.versions m.used i) (chosen i))
      (λ e.
      let g = removal_does o.links o.rows o.header m d.shows k (both_true _ (chosen i) e).0 in
      record { answer = ap (λ (v : Values). counted (v.count + 1)) d.answer; row = refl; shows = g.shows })
      (λ _. d))

  pub chosen_does : (l r : List ℕ) (hd : Header) (m : Machine) → Shows l r hd m → (n : ℕ) →
      Does (remove_chosen chosen n (plain (counted 0) hd l r)) (let t = remove_chosen_on chosen n m in stays t.machine (counted t.count))
  unfolding remove_chosen remove_chosen_on
  chosen_does l r hd m s zero = record { answer = refl; row = refl; shows = s }
  chosen_does l r hd m s (suc n) =
      if_does (remove_chosen chosen n (plain (counted 0) hd l r)) (remove_chosen_on chosen n m) (chosen_does l r hd m s n) n

module _ (l r : List ℕ) (hd : Header) (m : Machine) (s : Shows l r hd m) where
  whole_check : (n : ℕ) → sound_number n l hd ≡ n
  whole_check n = sound_passes l hd n s.sound

  pub check_does : Does (check_rule l r hd) (check_on m)
  unfolding check_rule
  check_does =
      unless_does l r hd m s _ 0 (whole_check _ ∙ entry_passes l r hd s.shaped s.sound.zero_even.even) _ (check_on m)
      (λ _. record { answer = refl; row = refl; shows = s })

  -- clear, as the drain step repeated to the end, is every live slot removed in rising order
  pub clear_does : Does (clear_rule l r hd) (clear_on m)
  unfolding clear_rule clear_on
  clear_does =
      unless_does l r hd m s _ 0 (whole_check _ ∙ entry_passes l r hd s.shaped s.sound.zero_even.even) _ (clear_on m)
      (λ _.
      subst (λ (x : Machine). Does (drain_times (hd.live + 1) (plain done hd l r)) (stays x done)) (drained_all (live_of m) m (headed l r hd m s) refl)
      (subst (λ (n : ℕ). Does (drain_times (n + 1) (plain done hd l r)) (stays (drains_on (live_of m) m) done)) (sym (live_is l r hd m s))
      (drains_do (live_of m) (plain done hd l r) m s refl)))

  pub retain_does : (bytes : List ℕ) → Does (retain_rule l r hd bytes) (retain_on m bytes)
  unfolding retain_rule retain_number retain_on
  retain_does bytes =
      subst (λ (u : ℕ). Does (retain_rule l r hd bytes)
      (let n = side_number passes (length bytes) u in
      let t = remove_chosen_on (struck_by bytes) u m in pick (eqb n 0) (stays t.machine (counted t.count)) (stays m (refused n))))
      (ap (λ (x : Machine). x.used) s.same)
      (unless_does l r hd m s _ (side_number passes (length bytes) hd.used)
      (whole_check _ ∙ side_alone l r hd s.shaped s.sound.zero_even.even (length bytes) hd.used) _ _
      (λ _. chosen_does (struck_by bytes) l r hd m s hd.used))

-- a sound table of the right shape is a machine
pub checked_shows : (l r : List ℕ) (hd : Header) → shape_number l r hd ≡ 0 → (s : Sound l hd) → Shows l r hd (machine_of l r hd s.circle.after)
checked_shows l r hd e s = record { shaped = e; sound = s; same = refl }

-- so clear, past its check, comes to its end
pub clear_ends : (l r : List ℕ) (hd : Header) → sound_number (entry_number l r hd) l hd ≡ 0 →
    ((drain_times (hd.live + 1) (plain done hd l r)).answer ≡ done) × ((drain_times (hd.live + 1) (plain done hd l r)).row ≡ zero_row)
unfolding entry_number zero_number
clear_ends l r hd e =
    let p = sound_passed l hd (entry_number l r hd) e in
    let s = checked_shows l r hd (passed _ _ _ (omega arith) p.0).0 p.1 in
    let m = machine_of l r hd p.1.circle.after in
    let d = subst (λ (n : ℕ). Does (drain_times (n + 1) (plain done hd l r)) (stays (drains_on (live_of m) m) done)) (sym (live_is l r hd m s))
    (drains_do (live_of m) (plain done hd l r) m s refl) in
    (d.answer, d.row)

-- and retain, past its check, is refused at no slot that goes
pub retain_removes : (l r : List ℕ) (hd : Header) (bytes : List ℕ) → retain_number l r hd bytes ≡ 0 → (i : ℕ) →
    let o = remove_chosen (struck_by bytes) i (plain (counted 0) hd l r) in
    let k = key_at o.links o.header.used i in
    occupied_at o.links o.header.used i ≡ true → (remove_slot o.links o.rows o.header k).answer ≡ keyed k
unfolding retain_number side_entry_number zero_number side_number occupied_at
retain_removes l r hd bytes e i h =
    let p = sound_passed l hd _ e in
    let f = (passed _ _ _ (omega arith) (passed _ _ _ (omega arith) p.0).0).0 in
    let m = machine_of l r hd p.1.circle.after in
    let d = (chosen_does (struck_by bytes) l r hd m (checked_shows l r hd f p.1) i).shows in
    let o = remove_chosen (struck_by bytes) i (plain (counted 0) hd l r) in
    (removal_does o.links o.rows o.header _ d (key_at o.links o.header.used i)
    (sym (ap (λ (x : Machine). occupied_by x.versions x.used i) d.same) ∙ h)).answer
