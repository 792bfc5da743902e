-- A key that is live in a machine, and what look answers for it and for any other. Assumes nothing.
use mathlib.Core.Path.{◌≡◌, refl}
use mathlib.Core.List.{[]}
use mathlib.Core.Bool.{Bool, true, false}
use Prim.Native.Nat.{◌<◌, ◌%◌}
use native.Mathlib.Omega.{arith}
use lib.Dec.{ltb}
use borrow.Author.Tests.{lt-ltb, eq-eqb, ne_eqb, ltb-true, eqb-true}
use Rattle.rules.specs.Words.{is_odd}
use Rattle.rules.specs.Refusals.{◌▸◌, passes, not_live, live_by}
use Rattle.rules.specs.declared.Key.{Key}
use Rattle.rules.proofs.Choice.{by_test, both_true}
use Rattle.runs.specs.Machine.{Machine}
use Rattle.runs.specs.Steps.{key_number_on, look_on}
use Rattle.runs.proofs.Removed.{key_live}

-- a key is its slot and its version
pub same_key_lem : (k x : Key) → k.index ≡ x.index → k.version ≡ x.version → k ≡ x
same_key_lem k x i w = λ t. record { index = i t; version = w t }

pub record Live (m : Machine) (k : Key) : Type 0 where
  pub low : k.index < m.used
  pub odd : k.version % 2 ≡ 1
  pub same : m.versions k.index ≡ k.version

module _ (m : Machine) (k : Key) where
  pub live_is : live_by m.versions m.used k ≡ true → Live m k
  live_is e =
      let a = both_true (ltb k.index m.used) _ e in
      let b = both_true (is_odd k.version) _ a.1 in
      record { low = ltb-true _ _ a.0; odd = eqb-true _ _ b.0; same = eqb-true _ _ b.1 }

  pub live_yes : Live m k → live_by m.versions m.used k ≡ true
  live_yes a = simp (lt-ltb _ _ a.low, eq-eqb _ _ a.odd, eq-eqb _ _ a.same)

  pub live_passes : Live m k → key_number_on passes m k ≡ 0
  unfolding key_number_on ◌▸◌
  live_passes a =
      simp (live_yes a, ne_eqb (k.version % 2) 0 (λ z. omega (arith, a.odd)))

  pub passes_live : key_number_on passes m k ≡ 0 → Live m k
  passes_live e = live_is (key_live passes m k e).1

  -- the number of a key that is not live, where its version is odd
  pub dead_number : k.version % 2 ≡ 1 → (Live m k → ⊥) → key_number_on passes m k ≡ not_live
  unfolding key_number_on ◌▸◌
  dead_number o d =
      let e : live_by m.versions m.used k ≡ false = by_test (λ (t : Bool). live_by m.versions m.used k ≡ t → t ≡ false) _ (λ _ q. absurd (d (live_is q))) (λ _ _. refl) refl in
      simp (ne_eqb (k.version % 2) 0 (λ z. omega (arith, o)), e)

  pub look_live : Live m k → look_on m k ≡ m.rows k.index
  unfolding look_on
  look_live a = simp (eq-eqb _ 0 (live_passes a))

  pub look_dead : (Live m k → ⊥) → look_on m k ≡ []
  unfolding look_on
  look_dead d = simp (ne_eqb (key_number_on passes m k) 0 (λ e. d (passes_live e)))
