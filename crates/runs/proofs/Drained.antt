-- The drain step on a sound table is the machine's: it takes the lowest live slot. Assumes nothing.
use mathlib.Core.Path.{◌≡◌, refl, sym, ap, ◌∙◌, subst}
use mathlib.Core.Logic.{◌≢◌}
use mathlib.Core.List.{List}
use mathlib.Core.Bool.{Bool}
use Prim.Native.Nat.{ℕ, zero, suc, ◌+◌, ◌≤◌, ◌<◌, ◌%◌}
use native.Mathlib.Omega.{arith}
use lib.Dec.{eqb}
use borrow.Author.Tests.{eq-eqb, ne_eqb, eqb-false}
use Rattle.rules.specs.Choice.{pick}
use Rattle.rules.specs.Words.{version_at, other_end_at}
use Rattle.rules.specs.Values.{Outcome, plain, done}
use Rattle.rules.specs.Refusals.{entry_number}
use Rattle.rules.specs.Remove.{remove_at}
use Rattle.rules.specs.Drain.{drain_rule}
use Rattle.rules.specs.Clear.{drain_times}
use Rattle.rules.specs.declared.Header.{Header}
use Rattle.rules.proofs.Choice.{by_test}
use Rattle.rules.proofs.SlotTests.{occupied_yes}
use Rattle.runs.specs.Machine.{Machine, live_of, key_of, back_of, machine_of}
use Rattle.runs.specs.Steps.{Step, stays, taken_out, lowest, drain_on}
use Rattle.runs.specs.WholeTable.{drains_on}
use Rattle.runs.specs.Tables.{Shows, Does}
use Rattle.runs.proofs.Sound.{linked}
use Rattle.runs.proofs.Shown.{entry_passes, unless_does}
use Rattle.runs.proofs.ChosenMachine.{freed_count}
use Rattle.runs.proofs.DrainMachine.{Headed, zero_run, none_lower, lowest_live}
use Rattle.runs.proofs.Removed.{remove_at_does}

-- a table that is a machine has slot 0 in use, and vacant
pub headed : (l r : List ℕ) (hd : Header) (m : Machine) → Shows l r hd m → Headed m
headed l r hd m s =
    let L = linked l hd s.sound in
    subst Headed s.same (record { positive = L.fronts.positive; even = L.fronts.zero_even })

module _ (l r : List ℕ) (hd : Header) (m : Machine) (s : Shows l r hd m) where
  pub live_is : hd.live ≡ live_of m
  live_is = s.sound.live_count.counted ∙ ap live_of s.same

  -- the lowest live slot is other_end(0) + 1
  pub lowest_is : other_end_at l hd.used 0 + 1 ≡ lowest m
  lowest_is =
      let z : Headed (machine_of l r hd s.sound.circle.after) = subst Headed (sym s.same) (headed l r hd m s) in
      let L = linked l hd s.sound in
      ap (λ (b : ℕ). b + 1) (L.ends 0 (back_of (version_at l hd.used) hd.used 0) (zero_run (machine_of l r hd s.sound.circle.after) z)).0
      ∙ ap lowest s.same

  -- it is in use and occupied where any row is live, and nothing below it is
  pub lowest_slot : 1 ≤ hd.live →
      let q = other_end_at l hd.used 0 + 1 in
      (q < hd.used) × (version_at l hd.used q % 2 ≡ 1) × ((i : ℕ) → i < q → version_at l hd.used i % 2 ≡ 0)
  lowest_slot h =
      let n = machine_of l r hd s.sound.circle.after in
      let z : Headed n = subst Headed (sym s.same) (headed l r hd m s) in
      let t = lowest_is ∙ ap lowest (sym s.same) in
      let w = lowest_live n z (omega (arith, s.sound.live_count.counted)) in
      rw t (w.0, w.1, none_lower n z)

  abbrev taken : Outcome
  taken = remove_at l r hd (other_end_at l hd.used 0 + 1)

  abbrev takenOn : Step
  takenOn = taken_out m (key_of m (lowest m))

  taken_does : live_of m ≢ 0 → Does taken takenOn
  taken_does some =
      let w = lowest_live m (headed l r hd m s) (omega (arith, some)) in
      subst (λ (q : ℕ). Does (remove_at l r hd q) takenOn) (sym lowest_is)
      (remove_at_does l r hd m s (lowest m) (occupied_yes m.versions m.used (lowest m) w.0 w.1))

  pub drain_does : Does (drain_rule l r hd) (drain_on m)
  unfolding drain_rule drain_on
  drain_does =
      unless_does l r hd m s (entry_number l r hd) 0 (entry_passes l r hd s.shaped s.sound.zero_even.even) _ (drain_on m)
      (λ _.
      subst (λ (n : ℕ). Does (pick (eqb n 0) (plain done hd l r) taken) (drain_on m)) (sym live_is)
      (by_test (λ (t : Bool). Does (pick t (plain done hd l r) taken) (pick t (stays m done) takenOn)) (eqb (live_of m) 0)
      (λ _. record { answer = refl; row = refl; shows = s })
      (λ z. taken_does (eqb-false (live_of m) 0 z))))

-- the drain step to the end: as many steps as rows are live, and one that answers done
pub drains_do : (n : ℕ) (o : Outcome) (m : Machine) → Shows o.links o.rows o.header m → live_of m ≡ n →
    Does (drain_times (n + 1) o) (stays (drains_on n m) done)
unfolding drain_times drains_on drain_on
drains_do zero o m s e =
    let d = drain_does o.links o.rows o.header m s in
    subst (Does (drain_rule o.links o.rows o.header)) (simp (eq-eqb (live_of m) 0 e)) d
drains_do (suc n) o m s e =
    let d = drain_does o.links o.rows o.header m s in
    let w = lowest_live m (headed _ _ _ m s) (omega arith) in
    let q : drain_on m ≡ taken_out m (key_of m (lowest m)) = simp (ne_eqb (live_of m) 0 (λ t. omega arith)) in
    let one = freed_count m (lowest m) (occupied_yes m.versions m.used (lowest m) w.0 w.1) in
    let f : suc (n + 1) ≡ suc n + 1 = omega arith in
    subst (λ (k : ℕ). Does (drain_times k o) (stays (drains_on (suc n) m) done)) f
    (drains_do n (drain_rule o.links o.rows o.header) (drain_on m).machine d.shows (omega (arith, ap (λ (t : Step). live_of t.machine) q)))
