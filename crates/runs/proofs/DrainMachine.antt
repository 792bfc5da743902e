-- The lowest live slot, and that draining to the end removes every live slot in rising order. Assumes nothing.
use mathlib.Core.Path.{◌≡◌, refl, sym, ap, ◌∙◌, subst}
use mathlib.Core.Logic.{◌≢◌}
use mathlib.Core.Bool.{Bool}
use Prim.Native.Nat.{ℕ, zero, suc, ◌+◌, ◌-◌, ◌≤◌, ◌<◌, ◌%◌}
use native.Mathlib.Decide.{ℕ_discrete, dec_lt}
use native.Mathlib.Omega.{arith}
use borrow.Author.Tests.{ne_eqb}
use Rattle.rules.specs.Choice.{pick, both}
use Rattle.rules.specs.Words.{rise, occupied_by}
use Rattle.rules.specs.Runs.{Run}
use Rattle.rules.proofs.Choice.{by_test}
use Rattle.rules.proofs.SlotTests.{occupied_yes, occupied_no}
use Rattle.runs.specs.Points.{put}
use Rattle.runs.specs.Machine.{Machine, live_of, back_of}
use Rattle.runs.specs.Steps.{freed_on, lowest, drain_on}
use Rattle.runs.specs.WholeTable.{remove_if_on, remove_chosen_on, all, drains_on}
use Rattle.runs.proofs.Points.{put_same, put_other}
use Rattle.runs.proofs.Counts.{rise_even, odd_some, odd_none}
use Rattle.runs.proofs.Runs.{after_run}
use Rattle.runs.proofs.Backs.{run_from}
use Rattle.runs.proofs.ChosenMachine.{freed_count}

-- slot 0 is in use, and vacant
pub record Headed (m : Machine) : Type 0 where
  pub positive : 0 < m.used
  pub even : m.versions 0 % 2 ≡ 0

module _ (m : Machine) (z : Headed m) where
  pub zero_run : Run m.versions m.used 0 (back_of m.versions m.used 0)
  zero_run = run_from m.versions m.used 0 (record { below = z.positive; vacant = z.even; starts = λ j e. absurd (omega arith) })

  -- below the slot after slot 0's run nothing is live
  pub none_lower : (i : ℕ) → i < lowest m → m.versions i % 2 ≡ 0
  none_lower i h = zero_run.vacant i (omega arith) (omega arith)

  -- and it is live, if any is
  pub lowest_live : 1 ≤ live_of m → (lowest m < m.used) × (m.versions (lowest m) % 2 ≡ 1)
  lowest_live h = go (dec_lt (lowest m) m.used)
    where
      go : Dec (lowest m < m.used) → (lowest m < m.used) × (m.versions (lowest m) % 2 ≡ 1)
      go (yes q) = (q, after_run m.versions m.used 0 (back_of m.versions m.used 0) zero_run q)
      go (no q) = absurd (omega (arith, odd_none m.versions m.used (λ i l. none_lower i (omega arith))))

  pub freed_headed : (i : ℕ) → i ≢ 0 → Headed (freed_on m i)
  unfolding freed_on
  freed_headed i n =
      record {
        positive = z.positive;
        even = ap (λ (x : ℕ). x % 2) (put_other m.versions i (rise (m.versions i)) 0 (λ t. n (sym t))) ∙ z.even;
      }

pub freed_used : (m : Machine) (i : ℕ) → (freed_on m i).used ≡ m.used
unfolding freed_on
freed_used m i = refl

-- one slot looked at, the count left out
abbrev removed_at : (ℕ → Bool) → ℕ → Machine → Machine
removed_at chosen i m = pick (both (occupied_by m.versions m.used i) (chosen i)) (freed_on m i) m

chosen_more : (chosen : ℕ → Bool) (n : ℕ) (m : Machine) → (remove_chosen_on chosen (suc n) m).machine ≡ removed_at chosen n (remove_chosen_on chosen n m).machine
unfolding remove_chosen_on remove_if_on
chosen_more chosen n m =
    let s = remove_chosen_on chosen n m in
    by_test (λ (t : Bool). (pick t (record { count = s.count + 1; machine = freed_on s.machine n }) s).machine ≡ pick t (freed_on s.machine n) s.machine)
    (both (occupied_by s.machine.versions s.machine.used n) (chosen n)) (λ _. refl) (λ _. refl)

chosen_start : (chosen : ℕ → Bool) (m : Machine) → (remove_chosen_on chosen 0 m).machine ≡ m
unfolding remove_chosen_on
chosen_start chosen m = refl

-- where none of the slots below n is live, none goes
chosen_vacant : (chosen : ℕ → Bool) (n : ℕ) (m : Machine) → ((i : ℕ) → i < n → m.versions i % 2 ≡ 0) → (remove_chosen_on chosen n m).machine ≡ m
chosen_vacant chosen zero m h = chosen_start chosen m
chosen_vacant chosen (suc n) m h =
    chosen_more chosen n m ∙ ap (removed_at chosen n) (chosen_vacant chosen n m (λ i l. h i (omega arith)))
    ∙ simp (occupied_no m.versions m.used n (λ _. h n (omega arith)))

-- once the lowest live slot is gone, none is live as far as there
gone_too : (m : Machine) → Headed m → 1 ≤ live_of m → (i : ℕ) → i < suc (lowest m) → (freed_on m (lowest m)).versions i % 2 ≡ 0
unfolding freed_on
gone_too m z h i l = go (ℕ_discrete i (lowest m))
  where
    go : Dec (i ≡ lowest m) → put m.versions (lowest m) (rise (m.versions (lowest m))) i % 2 ≡ 0
    go (yes t) =
        ap (λ (x : ℕ). x % 2) (put_same m.versions (lowest m) (rise (m.versions (lowest m))) i t) ∙ rise_even (m.versions (lowest m)) (lowest_live m z h).1
    go (no t) =
        ap (λ (x : ℕ). x % 2) (put_other m.versions (lowest m) (rise (m.versions (lowest m))) i t) ∙ none_lower m z i (omega arith)

-- the lowest live slot goes first
lowest_first : (m : Machine) → Headed m → 1 ≤ live_of m → (d n : ℕ) → n ≡ suc (lowest m) + d →
    (remove_chosen_on all n m).machine ≡ (remove_chosen_on all n (freed_on m (lowest m))).machine
lowest_first m z h zero n e =
    let f : n ≡ suc (lowest m) = omega arith in
    let w = lowest_live m z h in
    let taken : removed_at all (lowest m) m ≡ freed_on m (lowest m) = simp (occupied_yes m.versions m.used (lowest m) w.0 w.1) in
    subst (λ (k : ℕ). (remove_chosen_on all k m).machine ≡ (remove_chosen_on all k (freed_on m (lowest m))).machine) (sym f)
    (chosen_more all (lowest m) m
    ∙ ap (removed_at all (lowest m)) (chosen_vacant all (lowest m) m (none_lower m z))
    ∙ taken
    ∙ sym (chosen_vacant all (suc (lowest m)) (freed_on m (lowest m)) (gone_too m z h)))
lowest_first m z h (suc d) zero e = absurd (omega arith)
lowest_first m z h (suc d) (suc n) e =
    chosen_more all n m ∙ ap (removed_at all n) (lowest_first m z h d n (omega arith)) ∙ sym (chosen_more all n (freed_on m (lowest m)))

-- to the end: every live slot, in rising order
pub drained_all : (n : ℕ) (m : Machine) → Headed m → live_of m ≡ n → drains_on n m ≡ (remove_chosen_on all m.used m).machine
unfolding drains_on drain_on
drained_all zero m z e = sym (chosen_vacant all m.used m (λ i l. even i l (ℕ_discrete (m.versions i % 2) 0)))
  where
    even : (i : ℕ) → i < m.used → Dec (m.versions i % 2 ≡ 0) → m.versions i % 2 ≡ 0
    even i l (yes q) = q
    even i l (no q) = absurd (omega (arith, odd_some m.versions m.used i l (omega arith)))
drained_all (suc n) m z e =
    let w = lowest_live m z (omega arith) in
    let one = freed_count m (lowest m) (occupied_yes m.versions m.used (lowest m) w.0 w.1) in
    simp (ne_eqb (live_of m) 0 (λ t. omega arith))
    (drained_all n (freed_on m (lowest m)) (freed_headed m z (lowest m) (λ t. omega arith)) (omega arith)
    ∙ ap (λ (k : ℕ). (remove_chosen_on all k (freed_on m (lowest m))).machine) (freed_used m (lowest m))
    ∙ sym (lowest_first m z (omega arith) (m.used - suc (lowest m)) m.used (omega (arith, w.0))))
