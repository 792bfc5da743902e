-- Looks, replace and room on a sound table are the machine's. Assumes nothing.
use mathlib.Core.Path.{◌≡◌, refl, ap, ◌∙◌}
use mathlib.Core.List.{List, []}
use Prim.Native.Nat.{ℕ, ◌-◌, ◌<◌}
use native.Mathlib.Omega.{arith}
use lib.ListN.{length}
use lib.Dec.{ltb, eqb}
use borrow.Author.Tests.{eq-eqb, eqb-true, ltb-true, not-false}
use Rattle.rules.specs.Choice.{pick}
use Rattle.rules.specs.Words.{row_words, lent_of, version_at, row_at, set_row}
use Rattle.rules.specs.Values.{Outcome, counted, keyed, unless}
use Rattle.rules.specs.Refusals.{passes, side_number, live_key, live_number}
use Rattle.rules.specs.Access.{look_rule, look_row_rule, replace_number, replace_rule}
use Rattle.rules.specs.Start.{room_rule}
use Rattle.rules.specs.declared.Header.{Header}
use Rattle.rules.specs.declared.Key.{Key}
use Rattle.rules.proofs.Choice.{both_true}
use Rattle.rules.proofs.Refusals.{passed}
use Rattle.rules.proofs.Shape.{shaped}
use Rattle.runs.specs.Machine.{Machine}
use Rattle.runs.specs.Steps.{key_number_on, look_on, written, replace_on}
use Rattle.runs.specs.WholeTable.{room_on}
use Rattle.runs.specs.Tables.{Shows, Does}
use Rattle.runs.proofs.Rows.{row_below, row_put, length_row}
use Rattle.runs.proofs.Shown.{entry_passes, side_alone, rows_fit, still_shaped, unless_does}
use Rattle.runs.proofs.Removed.{key_live, key_number_is}
use Rattle.runs.proofs.Drained.{live_is}

module _ (l r : List ℕ) (hd : Header) (m : Machine) (s : Shows l r hd m) where
  pub look_is : (k : Key) → look_rule l r hd k ≡ look_on m k
  unfolding look_rule look_on
  look_is k =
      ap (λ (n : ℕ). pick (eqb n 0) (row_at r hd.used k.index) []) (key_number_is l r hd m s k)
      ∙ ap (λ (x : Machine). pick (eqb (key_number_on passes m k) 0) (x.rows k.index) []) s.same

  -- a look by value: the machine's row under the key that was asked for
  shown_row : Key → List ℕ → Outcome
  shown_row k row = unless l r hd (key_number_on passes m k) (record { answer = keyed k; row = row; header = hd; links = l; rows = r })

  pub look_row_is : (k : Key) → look_row_rule l r hd k ≡ unless l r hd (key_number_on passes m k) (record { answer = keyed k; row = m.rows k.index; header = hd; links = l; rows = r })
  unfolding look_row_rule shown_row
  look_row_is k =
      ap (λ (n : ℕ). unless l r hd n (record { answer = keyed k; row = row_at r hd.used k.index; header = hd; links = l; rows = r })) (key_number_is l r hd m s k)
      ∙ ap (λ (x : Machine). shown_row k (x.rows k.index)) s.same

  pub room_does : Does (room_rule l r hd) (room_on m)
  unfolding room_rule
  room_does =
      unless_does l r hd m s _ 0 (entry_passes l r hd s.shaped s.sound.zero_even.even) _ (room_on m)
      (λ _. record {
        answer = ap (λ (x : Machine). counted (x.lent - hd.live)) s.same ∙ ap (λ (n : ℕ). counted (m.lent - n)) (live_is l r hd m s);
        row = refl;
        shows = s;
      })

  replace_number_is : (k : Key) (side : List ℕ) → replace_number l r hd k side ≡ key_number_on (side_number passes (length side) row_words) m k
  unfolding replace_number live_number live_key key_number_on
  replace_number_is k side =
      ap (λ (n : ℕ). live_number n l hd k) (side_alone l r hd s.shaped s.sound.zero_even.even (length side) row_words)
      ∙ ap (λ (x : Machine). key_number_on (side_number passes (length side) row_words) x k) s.same

  -- a row written in a slot in use
  pub written_shows : (i : ℕ) (side : List ℕ) → i < m.used → length side ≡ row_words → Shows l (set_row r i side) hd (written m i side)
  unfolding written
  written_shows i side h e =
      let f = shaped l r hd s.shaped in
      let u : hd.used ≡ m.used = ap (λ (x : Machine). x.used) s.same in
      let rows = row_put r i side hd.used (row_below r hd.used i (rows_fit l r hd s.shaped) (omega arith)) (eq-eqb _ _ e) in
      record {
        shaped = still_shaped l r l (set_row r i side) hd hd s.shaped refl (length_row r i side) f.some f.within f.few;
        sound = s.sound;
        same = ap (λ (g : ℕ → List ℕ). record { versions = version_at l hd.used; rows = g; used = hd.used; fronts = s.sound.circle.after; lent = lent_of l }) rows
            ∙ ap (λ (x : Machine). written x i side) s.same;
      }

  pub replace_does : (k : Key) (side : List ℕ) → Does (replace_rule l r hd k side) (replace_on m k side)
  unfolding replace_rule replace_on side_number
  replace_does k side =
      unless_does l r hd m s _ _ (replace_number_is k side) _ _
      (λ e.
      let f = key_live (side_number passes (length side) row_words) m k e in
      let low = ltb-true k.index m.used (both_true (ltb k.index m.used) _ f.1).0 in
      let whole = eqb-true (length side) row_words (not-false _ (passed _ _ _ (omega arith) f.0).1) in
      record { answer = refl; row = refl; shows = written_shows k.index side low whole })
