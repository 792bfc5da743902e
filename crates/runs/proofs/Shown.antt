-- A table that is a machine: what its entry tests answer, that its slots in use lie within it, and how a call that is refused or goes through is a step. Assumes nothing.
use mathlib.Core.Path.{◌≡◌, refl, sym, ap, ◌∙◌, subst}
use mathlib.Core.List.{List}
use mathlib.Core.Bool.{Bool, false}
use Prim.Native.Nat.{ℕ, ◌-◌, ◌*◌, ◌/◌, ◌≤◌, ◌<◌, ◌%◌}
use native.Mathlib.Omega.{arith}
use lib.ListN.{length}
use lib.Dec.{eqb}
use borrow.Author.Tests.{ne_eqb, le-ltb, eqb-true}
use Rattle.rules.specs.Choice.{pick}
use Rattle.rules.specs.Words.{lent_of, link_words, row_words, version_at, is_odd}
use Rattle.rules.specs.Values.{Outcome, refused, refusal, unless}
use Rattle.rules.specs.Refusals.{passes, damaged, lent_number, header_number, shape_number, side_number, zero_number, entry_number, side_entry_number}
use Rattle.rules.specs.Runs.{odd_count}
use Rattle.rules.specs.declared.Header.{Header}
use Rattle.rules.proofs.Choice.{by_test}
use Rattle.rules.proofs.Refusals.{passed, skipped}
use Rattle.rules.proofs.Shape.{shaped}
use Rattle.runs.specs.Machine.{Machine, machine_of, header_of}
use Rattle.runs.specs.Steps.{Step, stays, step_unless}
use Rattle.runs.specs.Tables.{Shows, Does}
use Rattle.runs.proofs.Sound.{LinkedTable, sound, sound_chain, one_chain}

module _ (l r : List ℕ) (hd : Header) (shape : shape_number l r hd ≡ 0) (even : version_at l hd.used 0 % 2 ≡ 0) where
  not_odd : is_odd (version_at l hd.used 0) ≡ false
  not_odd = ne_eqb (version_at l hd.used 0 % 2) 1 (λ t. omega arith)

  pub entry_passes : entry_number l r hd ≡ 0
  unfolding entry_number zero_number
  entry_passes = skipped (shape_number l r hd) (is_odd (version_at l hd.used 0)) damaged not_odd ∙ shape

  pub side_alone : (side asked : ℕ) → side_entry_number l r hd side asked ≡ side_number passes side asked
  unfolding side_entry_number zero_number
  side_alone side asked =
      skipped (side_number (shape_number l r hd) side asked) (is_odd (version_at l hd.used 0)) damaged not_odd
      ∙ ap (λ (n : ℕ). side_number n side asked) shape

-- the slots in use lie within both tables
module _ (l r : List ℕ) (hd : Header) (shape : shape_number l r hd ≡ 0) where
  pub links_fit : hd.used * link_words ≤ length l
  links_fit = let s = shaped l r hd shape in omega (arith, s.within, s.lent.links_lent)

  pub rows_fit : hd.used * row_words ≤ length r
  rows_fit = let s = shaped l r hd shape in omega (arith, s.within, s.lent.rows_lent)

-- tables that may be lent, under any header that fits them; and tables of the same lengths
pub fits_shape : (l r : List ℕ) (hd : Header) → lent_number (length l) (length r) ≡ 0 → 1 ≤ hd.used → hd.used ≤ lent_of l → hd.live < hd.used →
    shape_number l r hd ≡ 0
unfolding shape_number header_number
fits_shape l r hd e p q s =
    skipped _ _ _ (le-ltb (hd.used - 1) hd.live (omega arith))
    ∙ skipped _ _ _ (le-ltb (lent_of l) hd.used q)
    ∙ skipped _ _ _ (ne_eqb hd.used 0 (λ t. omega arith))
    ∙ e

pub lent_shape : (l r : List ℕ) (hd : Header) → shape_number l r hd ≡ 0 → lent_number (length l) (length r) ≡ 0
unfolding shape_number header_number
lent_shape l r hd e = (passed _ _ _ (omega arith) (passed _ _ _ (omega arith) (passed _ _ _ (omega arith) e).0).0).0

pub same_lent : (l r l' r' : List ℕ) → lent_number (length l) (length r) ≡ 0 → length l' ≡ length l → length r' ≡ length r → lent_number (length l') (length r') ≡ 0
same_lent l r l' r' e a b = ap (λ (n : ℕ). lent_number n (length r')) a ∙ ap (lent_number (length l)) b ∙ e

pub still_shaped : (l r l' r' : List ℕ) (hd hd' : Header) → shape_number l r hd ≡ 0 → length l' ≡ length l → length r' ≡ length r →
    1 ≤ hd'.used → hd'.used ≤ lent_of l → hd'.live < hd'.used → shape_number l' r' hd' ≡ 0
still_shaped l r l' r' hd hd' e a b p q s =
    fits_shape l' r' hd' (same_lent l r l' r' (lent_shape l r hd e) a b) p (omega (arith, ap (λ (n : ℕ). n / link_words) a)) s

-- a table of the right shape with its chain known, and the machine that it is
module _ (l r : List ℕ) (hd : Header) where
  pub shows : (after : List ℕ) → shape_number l r hd ≡ 0 → LinkedTable l hd.used after →
      hd.live ≡ odd_count (version_at l hd.used) hd.used → Shows l r hd (machine_of l r hd after)
  shows after e L c = record { shaped = e; sound = sound l hd after L c; same = ap (machine_of l r hd) (sound_chain l hd after L c) }

  -- one table is one machine
  pub one_machine : (m m' : Machine) → Shows l r hd m → Shows l r hd m' → m ≡ m'
  one_machine m m' s t = sym s.same ∙ ap (machine_of l r hd) (one_chain l hd s.sound t.sound) ∙ t.same

  -- its header is the machine's
  pub header_is : (m : Machine) → Shows l r hd m → hd ≡ header_of m
  header_is m s = ap (λ (x : ℕ). record { used = hd.used; live = x }) s.sound.live_count.counted ∙ ap header_of s.same

  -- a call that its number turns down, and one that goes through
  pub unless_does : (m : Machine) → Shows l r hd m → (n n' : ℕ) → n ≡ n' → (o : Outcome) (s : Step) → (n' ≡ 0 → Does o s) →
      Does (unless l r hd n o) (step_unless m n' s)
  unfolding unless
  unless_does m sh n n' e o s h =
      subst (λ (k : ℕ). Does (pick (eqb k 0) o (refusal l r hd k)) (step_unless m n' s)) (sym e)
      (by_test (λ (t : Bool). Does (pick t o (refusal l r hd n')) (pick t s (stays m (refused n')))) (eqb n' 0)
      (λ z. h (eqb-true n' 0 z))
      (λ _. record { answer = refl; row = refl; shows = sh }))
