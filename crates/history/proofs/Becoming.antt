-- What a call makes of a machine: nothing, one event, or the chosen removed. For each the events, the bystander's book and the slots
-- in use. Assumes nothing.
use mathlib.Core.Path.{◌≡◌, refl, sym, ap, ◌∙◌, subst, fun_ext}
use mathlib.Core.List.{List, [], ◌∷◌}
use mathlib.Core.Bool.{Bool, true, false}
use Prim.Native.Nat.{ℕ, zero, suc, ◌+◌, ◌<◌, ◌%◌}
use native.Mathlib.Decide.{ℕ_discrete}
use native.Mathlib.Omega.{arith}
use lib.Dec.{ltb}
use borrow.Author.Tests.{eq-eqb, lt-ltb, le-ltb, eqb-false}
use Rattle.rules.specs.Choice.{pick, both}
use Rattle.rules.specs.Words.{rise, occupied_by}
use Rattle.rules.specs.declared.Key.{Key}
use Rattle.rules.proofs.Choice.{by_test, both_true}
use Rattle.rules.proofs.SlotTests.{occupied_is}
use Rattle.runs.specs.Machine.{Machine, key_of}
use Rattle.runs.specs.Steps.{look_on, freed_on}
use Rattle.runs.specs.WholeTable.{Tally, remove_if_on, remove_chosen_on}
use Rattle.runs.proofs.Counts.{rise_even}
use Rattle.runs.proofs.DrainMachine.{Headed}
use Rattle.runs.proofs.ChosenMachine.{goes, left}
use Rattle.history.specs.Bystander.{Book, struck}
use Rattle.history.specs.Events.{Event, removed, all_removed, told}
use Rattle.history.proofs.Live.{Live, look_dead}
use Rattle.history.proofs.Paths.{Removes, Happens, Path, one, join}
use Rattle.history.proofs.Books.{look_alike, told_is}
use Rattle.history.proofs.Counted.{Lasting, same_slots, slots_after}

pub record Becomes (m : Machine) (es : List Event) (book : Book) (m' : Machine) : Type 0 where
  pub path : Path m es m'
  pub has : book ≡ look_on m'
  pub slots : Lasting m m'

module _ (m : Machine) (z : Headed m) where
  pub nothing : Becomes m [] (look_on m) m
  nothing = record { path = refl; has = refl; slots = same_slots m m z refl }

  pub one_event : (e : Event) (m' : Machine) → Happens m e m' → Becomes m (e ∷ []) (told e (look_on m)) m'
  one_event e m' h = record { path = one m e m' h; has = told_is m e m' h; slots = slots_after m e m' h z }

-- a slot that falls vacant is its key removed
pub freed_removes : (m : Machine) (k : Key) → Live m k → Removes m k (freed_on m k.index)
unfolding freed_on
freed_removes m k a = record { live = a; versions = refl; rows = refl; used = refl }

module _ (chosen : ℕ → Bool) (m : Machine) where
  abbrev gone : ℕ → Machine
  gone n = (remove_chosen_on chosen n m).machine

  -- slot n has not been looked at once those below it have
  same_version : (n : ℕ) → (gone n).versions n ≡ m.versions n
  same_version n = (left chosen m n).versions n ∙ simp (le-ltb n n (omega arith))

  same_test : (n : ℕ) → occupied_by (gone n).versions (gone n).used n ≡ occupied_by m.versions m.used n
  same_test n = simp (same_version n, (left chosen m n).used)

  one_more : (n : ℕ) → Path (gone n) (pick (goes chosen m n) (removed (key_of m n) ∷ []) []) (remove_if_on chosen n (remove_chosen_on chosen n m)).machine
  unfolding remove_if_on
  one_more n =
      subst (λ (t : Bool). Path (gone n) (pick (goes chosen m n) (removed (key_of m n) ∷ []) []) (pick (both t (chosen n)) taken (remove_chosen_on chosen n m)).machine)
      (sym (same_test n))
      (by_test (λ (t : Bool). Path (gone n) (pick t (removed (key_of m n) ∷ []) []) (pick t taken (remove_chosen_on chosen n m)).machine) (goes chosen m n)
      (λ e. one (gone n) (removed (key_of m n)) (freed_on (gone n) n) (freed_removes (gone n) (key_of m n) (alive (both_true _ (chosen n) e).0))) (λ _. refl))
    where
      taken : Tally
      taken = record { count = (remove_chosen_on chosen n m).count + 1; machine = freed_on (gone n) n }

      alive : occupied_by m.versions m.used n ≡ true → Live (gone n) (key_of m n)
      alive e =
          let o = occupied_is m.versions m.used n e in
          record { low = omega (arith, o.0, (left chosen m n).used); odd = o.1; same = same_version n }

  chosen_path : (n : ℕ) → Path m (all_removed chosen m.versions m.used n) (gone n)
  unfolding all_removed remove_chosen_on
  chosen_path zero = refl
  chosen_path (suc n) = join m (all_removed chosen m.versions m.used n) (gone n) _ _ (chosen_path n) (one_more n)

  abbrev end : Machine
  end = gone m.used

  -- every key of a chosen slot is struck out, and no other
  module _ (k : Key) where
    abbrev i : ℕ
    i = k.index

    not_gone : {A : Type 0} (a b : A) → (occupied_by m.versions m.used i ≡ true → chosen i ≡ true → ⊥) → pick (both (ltb i m.used) (goes chosen m i)) a b ≡ b
    not_gone a b h = by_test (λ (t : Bool). both (ltb i m.used) (goes chosen m i) ≡ t → pick t a b ≡ b) _ (λ _ e. absurd (both_are e)) (λ _ _. refl) refl
      where
        both_are : both (ltb i m.used) (goes chosen m i) ≡ true → ⊥
        both_are e = let g = both_true _ (chosen i) (both_true (ltb i m.used) _ e).1 in h g.0 g.1

    struck_dead : chosen i ≡ true → Live end k → ⊥
    struck_dead e a = go (ℕ_discrete (m.versions i % 2) 1)
      where
        low : i < m.used
        low = omega (arith, a.low, (left chosen m m.used).used)

        odd : end.versions i % 2 ≡ 1
        odd = ap (λ (x : ℕ). x % 2) a.same ∙ a.odd

        go : Dec (m.versions i % 2 ≡ 1) → ⊥
        go (yes o) =
            let rises : end.versions i ≡ rise (m.versions i) = (left chosen m m.used).versions i ∙ simp (lt-ltb i m.used low, eq-eqb _ _ o, e) in
            omega (arith, odd, ap (λ (x : ℕ). x % 2) rises, rise_even (m.versions i) o)
        go (no n) =
            let stays = (left chosen m m.used).versions i ∙ not_gone _ _ (λ o _. n (occupied_is m.versions m.used i o).1) in
            n (ap (λ (x : ℕ). x % 2) (sym stays) ∙ odd)

    kept : chosen i ≡ false → look_on m k ≡ look_on end k
    kept e =
        let s = left chosen m m.used in
        let not_chosen : occupied_by m.versions m.used i ≡ true → chosen i ≡ true → ⊥ = λ _ q. eqb-false 0 1 refl (cc (e, q)) in
        look_alike m end k (s.versions i ∙ not_gone _ _ not_chosen) (s.rows i ∙ not_gone _ _ not_chosen) (λ q. omega (arith, s.used)) (λ q. omega (arith, s.used))

    struck_is : struck (λ x. chosen x.index) (look_on m) k ≡ look_on end k
    struck_is =
        by_test (λ (t : Bool). chosen i ≡ t → pick t [] (look_on m k) ≡ look_on end k) (chosen i) (λ _ e. sym (look_dead end k (struck_dead e))) (λ _ e. kept e) refl

  pub all_chosen : Headed end → Becomes m (all_removed chosen m.versions m.used m.used) (struck (λ x. chosen x.index) (look_on m)) end
  all_chosen z = record { path = chosen_path m.used; has = fun_ext struck_is; slots = same_slots m end z (left chosen m m.used).used }
