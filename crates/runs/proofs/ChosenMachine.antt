-- The chosen removed in rising order, for any choice, on the machine: what is left, and how many went. Assumes nothing.
use mathlib.Core.Path.{◌≡◌, refl, sym, ap, ◌∙◌}
use mathlib.Core.Logic.{◌≢◌}
use mathlib.Core.Bool.{Bool, true, false}
use Prim.Native.Nat.{ℕ, zero, suc, ◌+◌, ◌≤◌, ◌<◌, ◌%◌}
use native.Mathlib.Decide.{ℕ_discrete, dec_lt}
use native.Mathlib.Omega.{arith}
use lib.Dec.{ltb}
use borrow.Author.Tests.{lt-ltb, le-ltb}
use Rattle.rules.specs.Choice.{pick, both}
use Rattle.rules.specs.Words.{zero_row, is_odd, rise, occupied_by}
use Rattle.rules.proofs.Choice.{by_pick, both_true}
use Rattle.rules.proofs.SlotTests.{occupied_is}
use Rattle.runs.specs.Points.{put}
use Rattle.runs.specs.Machine.{Machine, live_of}
use Rattle.runs.specs.Steps.{freed_on}
use Rattle.runs.specs.WholeTable.{Tally, remove_if_on, remove_chosen_on}
use Rattle.runs.proofs.Points.{put_same, put_other}
use Rattle.runs.proofs.Counts.{rise_even, odd_change}

-- a slot that falls vacant takes one off the count
pub freed_count : (m : Machine) (i : ℕ) → occupied_by m.versions m.used i ≡ true → live_of (freed_on m i) + 1 ≡ live_of m
unfolding freed_on
freed_count m i e =
    let o = occupied_is m.versions m.used i e in
    omega (
      arith,
      odd_change m.versions (put m.versions i (rise (m.versions i))) m.used i o.0 (put_other m.versions i (rise (m.versions i))),
      ap (λ (x : ℕ). x % 2) (put_same m.versions i (rise (m.versions i)) i refl),
      rise_even (m.versions i) o.1,
      o.1,
    )

module _ (chosen : ℕ → Bool) (m : Machine) where
  -- slot i is one of those that go
  abbrev pub goes : ℕ → Bool
  goes i = both (occupied_by m.versions m.used i) (chosen i)

  -- what is left once the slots below n have been looked at
  pub record Left (n : ℕ) (s : Tally) : Type 0 where
    pub versions : (i : ℕ) → s.machine.versions i ≡ pick (both (ltb i n) (goes i)) (rise (m.versions i)) (m.versions i)
    pub rows : (i : ℕ) → s.machine.rows i ≡ pick (both (ltb i n) (goes i)) zero_row (m.rows i)
    pub used : s.machine.used ≡ m.used
    pub lent : s.machine.lent ≡ m.lent
    pub count : s.count + live_of s.machine ≡ live_of m

  -- as far as n a slot from n up has not been looked at; one more step looks at slot n and at no other
  not_yet : {A : Type 0} (n i : ℕ) (a b : A) → n ≤ i → pick (both (ltb i n) (goes i)) a b ≡ b
  not_yet n i a b h = simp (le-ltb i n h)

  looked_at : {A : Type 0} (n i : ℕ) (a b : A) → i ≡ n → pick (both (ltb i (suc n)) (goes i)) a b ≡ pick (goes i) a b
  looked_at n i a b e = simp (lt-ltb i (suc n) (omega arith))

  no_other : {A : Type 0} (n i : ℕ) (a b : A) → i ≢ n → pick (both (ltb i (suc n)) (goes i)) a b ≡ pick (both (ltb i n) (goes i)) a b
  no_other n i a b h = go (dec_lt i n)
    where
      go : Dec (i < n) → pick (both (ltb i (suc n)) (goes i)) a b ≡ pick (both (ltb i n) (goes i)) a b
      go (yes q) = simp (lt-ltb i n q, lt-ltb i (suc n) (omega arith))
      go (no q) = simp (le-ltb i n (omega arith), le-ltb i (suc n) (omega arith))

  at_slot : (i n : ℕ) → i ≡ n → goes i ≡ goes n
  at_slot i n e = ap goes e

  left_gone : (n : ℕ) (s : Tally) → Left n s → (c : ℕ) → c ≡ s.count + 1 → goes n ≡ true →
      Left (suc n) (record { count = c; machine = freed_on s.machine n })
  unfolding freed_on
  left_gone n s k c one e =
      record {
        versions = λ i. ver i (ℕ_discrete i n);
        rows = λ i. row i (ℕ_discrete i n);
        used = k.used;
        lent = k.lent;
        count = omega (arith, k.count, freed_count s.machine n here);
      }
    where
      same_version : s.machine.versions n ≡ m.versions n
      same_version = k.versions n ∙ not_yet n n (rise (m.versions n)) (m.versions n) (omega arith)

      here : occupied_by s.machine.versions s.machine.used n ≡ true
      here =
          ap (λ (x : ℕ). both (ltb n s.machine.used) (is_odd x)) same_version ∙ ap (λ (x : ℕ). both (ltb n x) (is_odd (m.versions n))) k.used
          ∙ (both_true (occupied_by m.versions m.used n) (chosen n) e).0

      ver : (i : ℕ) → Dec (i ≡ n) → put s.machine.versions n (rise (s.machine.versions n)) i ≡
          pick (both (ltb i (suc n)) (goes i)) (rise (m.versions i)) (m.versions i)
      ver i (yes t) =
          put_same s.machine.versions n (rise (s.machine.versions n)) i t ∙ ap rise same_version
          ∙ sym (looked_at n i (rise (m.versions i)) (m.versions i) t ∙ simp (at_slot i n t ∙ e) (ap (λ (x : ℕ). rise (m.versions x)) t))
      ver i (no t) =
          put_other s.machine.versions n (rise (s.machine.versions n)) i t ∙ k.versions i ∙ sym (no_other n i (rise (m.versions i)) (m.versions i) t)

      row : (i : ℕ) → Dec (i ≡ n) → put s.machine.rows n zero_row i ≡ pick (both (ltb i (suc n)) (goes i)) zero_row (m.rows i)
      row i (yes t) =
          put_same s.machine.rows n zero_row i t ∙ sym (looked_at n i zero_row (m.rows i) t ∙ simp (at_slot i n t ∙ e))
      row i (no t) = put_other s.machine.rows n zero_row i t ∙ k.rows i ∙ sym (no_other n i zero_row (m.rows i) t)

  left_kept : (n : ℕ) (s : Tally) → Left n s → goes n ≡ false → Left (suc n) s
  left_kept n s k e =
      record {
        versions = λ i. k.versions i ∙ same i (rise (m.versions i)) (m.versions i) (ℕ_discrete i n);
        rows = λ i. k.rows i ∙ same i zero_row (m.rows i) (ℕ_discrete i n);
        used = k.used;
        lent = k.lent;
        count = k.count;
      }
    where
      same : {A : Type 0} (i : ℕ) (a b : A) → Dec (i ≡ n) → pick (both (ltb i n) (goes i)) a b ≡ pick (both (ltb i (suc n)) (goes i)) a b
      same i a b (yes t) = not_yet n i a b (omega arith) ∙ sym (looked_at n i a b t ∙ simp (at_slot i n t ∙ e))
      same i a b (no t) = sym (no_other n i a b t)

  pub left : (n : ℕ) → Left n (remove_chosen_on chosen n m)
  unfolding remove_chosen_on remove_if_on
  left zero =
      record {
        versions = λ i. sym (not_yet 0 i (rise (m.versions i)) (m.versions i) (omega arith));
        rows = λ i. sym (not_yet 0 i zero_row (m.rows i) (omega arith));
        used = refl;
        lent = refl;
        count = omega arith;
      }
  left (suc n) = go (remove_chosen_on chosen n m) (left n)
    where
      same_test : (s : Tally) → Left n s → both (occupied_by s.machine.versions s.machine.used n) (chosen n) ≡ goes n
      same_test s k =
          let version : s.machine.versions n ≡ m.versions n = k.versions n ∙ not_yet n n (rise (m.versions n)) (m.versions n) (omega arith) in
          ap (λ (x : ℕ). both (both (ltb n s.machine.used) (is_odd x)) (chosen n)) version
          ∙ ap (λ (x : ℕ). both (both (ltb n x) (is_odd (m.versions n))) (chosen n)) k.used

      go : (s : Tally) → Left n s → Left (suc n) (remove_if_on chosen n s)
      go s k =
          by_pick (Left (suc n)) _ _ s
          (λ e. left_gone n s k _ (omega arith) (sym (same_test s k) ∙ e))
          (λ e. left_kept n s k (sym (same_test s k) ∙ e))
