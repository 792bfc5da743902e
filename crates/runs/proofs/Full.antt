-- Full is exactly: used = lent, and nothing but slot 0 vacant. Assumes nothing.
use mathlib.Core.Path.{◌≡◌, refl, sym, ap, ◌∙◌, subst}
use mathlib.Core.List.{List, [], ◌∷◌}
use Prim.Native.Nat.{ℕ, ◌≤◌, ◌<◌, ◌%◌}
use native.Mathlib.Decide.{ℕ_discrete}
use native.Mathlib.Omega.{arith}
use lib.ListN.{length}
use borrow.Author.Tests.{eq-eqb}
use Rattle.rules.specs.Choice.{times}
use Rattle.rules.specs.Words.{row_words, lent_of, version_at}
use Rattle.rules.specs.Values.{refused}
use Rattle.rules.specs.Refusals.{◌▸◌, full, side_number}
use Rattle.rules.specs.Runs.{Front, Run}
use Rattle.rules.specs.Insert.{insert_rule}
use Rattle.rules.specs.declared.Header.{Header}
use Rattle.rules.proofs.Full.{full_only}
use Rattle.runs.specs.Machine.{Machine, first, back_of}
use Rattle.runs.specs.Steps.{place, insert_number_on, insert_on}
use Rattle.runs.specs.Tables.{Shows, NoneVacant}
use Rattle.runs.proofs.Points.{alike_same, alike_other}
use Rattle.runs.proofs.Runs.{in_a_run}
use Rattle.runs.proofs.Fronts.{Fronts, fronts_once}
use Rattle.runs.proofs.Backs.{run_from}
use Rattle.runs.proofs.Sound.{linked}
use Rattle.runs.proofs.InsertWords.{place_is}
use Rattle.runs.proofs.Inserted.{insert_does}

module _ (v : ℕ → ℕ) (u : ℕ) (l : List ℕ) (i : Fronts v u l) where
  first_front : Front v u (first l)
  first_front = i.only (first l) (on l)
    where
      on : (m : List ℕ) → 1 ≤ times (first m) (0 ∷ m)
      on [] = omega (arith, alike_same 0 0 refl)
      on (x ∷ m) = omega (arith, alike_same x x refl)

  -- the run that the next row would go to
  pub place_run : Run v u (first l) (back_of v u (first l))
  place_run = run_from v u (first l) first_front

  no_chain : first l ≡ 0 → l ≡ []
  no_chain h = go l i h
    where
      go : (m : List ℕ) → Fronts v u m → first m ≡ 0 → m ≡ []
      go [] i h = refl
      go (x ∷ m) i h = absurd (omega (arith, fronts_once v u (x ∷ m) i 0, alike_same 0 0 refl, alike_same 0 x (sym h)))

  -- its back is slot 0 exactly where every other slot in use is occupied
  pub none_vacant : back_of v u (first l) ≡ 0 → (k : ℕ) → 0 < k → k < u → v k % 2 ≡ 1
  none_vacant z k p q = go (ℕ_discrete (v k % 2) 0)
    where
      starts_at_zero : first l ≡ 0
      starts_at_zero = omega (arith, place_run.ordered)

      zero_run : Run v u 0 0
      zero_run = subst (λ (x : ℕ). Run v u x 0) starts_at_zero (subst (λ (x : ℕ). Run v u (first l) x) z place_run)

      go : Dec (v k % 2 ≡ 0) → v k % 2 ≡ 1
      go (no n) = omega arith
      go (yes e) =
          let r = in_a_run v u k q e in
          let c = ap (λ (m : List ℕ). times r.0 (0 ∷ m)) (no_chain starts_at_zero) in
          absurd (fin r.0 r.1 r.2 r.3 r.4 (ℕ_discrete r.0 0) (omega (arith, i.every r.0 r.2.front, c)))
        where
          fin : (f b : ℕ) → Run v u f b → f ≤ k → k ≤ b → Dec (f ≡ 0) → 1 ≤ times f (0 ∷ []) → ⊥
          fin f b r g h (yes t) c = omega (arith, r.vacant 1 (omega arith) (omega arith), zero_run.stops (omega arith))
          fin f b r g h (no t) c = omega (arith, alike_other f 0 t)

  pub all_occupied : ((k : ℕ) → 0 < k → k < u → v k % 2 ≡ 1) → back_of v u (first l) ≡ 0
  all_occupied h = go (ℕ_discrete (back_of v u (first l)) 0)
    where
      go : Dec (back_of v u (first l) ≡ 0) → back_of v u (first l) ≡ 0
      go (yes e) = e
      go (no n) = absurd (omega (arith, place_run.vacant (back_of v u (first l)) place_run.ordered (omega arith), h (back_of v u (first l)) (omega arith) place_run.below))

-- the call
module _ (l r : List ℕ) (hd : Header) (m : Machine) (s : Shows l r hd m) (side : List ℕ) where
  fronts_are : Fronts (version_at l hd.used) hd.used s.sound.circle.after
  fronts_are = (linked l hd s.sound).fronts

  place_zero : NoneVacant l hd.used → place m ≡ 0
  place_zero h = ap place (sym s.same) ∙ all_occupied (version_at l hd.used) hd.used s.sound.circle.after fronts_are h

  pub full_if : length side ≡ row_words → hd.used ≡ lent_of l → NoneVacant l hd.used → (insert_rule l r hd side).answer ≡ refused full
  unfolding insert_on insert_number_on side_number ◌▸◌
  full_if whole e h =
      let u : m.used ≡ m.lent = ap (λ (x : Machine). x.used) (sym s.same) ∙ e ∙ ap (λ (x : Machine). x.lent) s.same in
      (insert_does l r hd m s side).answer ∙ simp (eq-eqb _ _ whole, eq-eqb _ _ (place_zero h), eq-eqb _ _ u)

  pub full_only_if : (insert_rule l r hd side).answer ≡ refused full → (hd.used ≡ lent_of l) × NoneVacant l hd.used
  full_only_if e =
      let f = full_only l r hd side e in
      let L = linked l hd s.sound in
      let b : back_of (version_at l hd.used) hd.used (first s.sound.circle.after) ≡ 0 =
      sym (place_is l hd.used s.sound.circle.after L) ∙ f.0 in
      (f.1, none_vacant (version_at l hd.used) hd.used s.sound.circle.after fronts_are b)
