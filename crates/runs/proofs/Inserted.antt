-- Insert on a sound table: never refused with 2, and the machine's step. Assumes nothing.
use mathlib.Core.Path.{◌≡◌, refl, sym, ap, ◌∙◌, subst}
use mathlib.Core.Logic.{◌≢◌}
use mathlib.Core.List.{List}
use mathlib.Core.Bool.{Bool, false, not}
use Prim.Native.Nat.{ℕ, suc, ◌+◌, ◌-◌, ◌*◌, ◌≤◌, ◌<◌, ◌%◌}
use native.Mathlib.Omega.{arith}
use lib.ListN.{length}
use lib.Dec.{eqb}
use borrow.Author.Tests.{eq-eqb, ne_eqb, lt-ltb, le-ltb, eqb-true, eqb-false, not-true, not-false}
use Rattle.rules.specs.Choice.{pick, both}
use Rattle.rules.specs.Words.{link_words, row_words, lent_of, version_at, next_at, prev_at, other_end_at, set_version, new_slot, row_at, set_row, with_bit}
use Rattle.rules.specs.Headers.{one_more, grown}
use Rattle.rules.specs.Refusals.{◌▸◌, passes, full, shape_number, side_number}
use Rattle.rules.specs.Runs.{odd_count}
use Rattle.rules.specs.Insert.{insert_links, last_slot, run_number, take_number, insert_number, take_new, take_slot, shortened, insert_step, insert_by, insert_rule}
use Rattle.rules.specs.declared.Header.{Header}
use Rattle.rules.specs.declared.steps.InsertLinks.{InsertLinks}
use Rattle.rules.proofs.Choice.{by_test, both_true, both_false, both_if}
use Rattle.rules.proofs.Refusals.{passed, skipped}
use Rattle.rules.proofs.Shape.{shaped}
use Rattle.runs.specs.Points.{put}
use Rattle.runs.specs.Machine.{Machine, first, later, machine_of}
use Rattle.runs.specs.Steps.{Step, place, insert_number_on, grown_by, filled_by, insert_on}
use Rattle.runs.specs.Tables.{Shows, Does}
use Rattle.runs.proofs.Points.{put_same, put_other}
use Rattle.runs.proofs.Words.{holds_below, length_link}
use Rattle.runs.proofs.Readers.{version_put, new_version, length_slot}
use Rattle.runs.proofs.Rows.{row_below, row_put, row_new, length_row}
use Rattle.runs.proofs.Counts.{odd_change, odd_more, odd_same}
use Rattle.runs.proofs.Followed.{insert_h, insert_b, insert_before, insert_n, insert_n_not_h, insert_room}
use Rattle.runs.proofs.Sound.{LinkedTable, linked}
use Rattle.runs.proofs.Shown.{side_alone, links_fit, rows_fit, still_shaped, shows, unless_does}
use Rattle.runs.proofs.InsertWords.{place_is, grown_linked, filled_linked, shortened_versions, shortened_length}
use Rattle.runs.proofs.Removed.{not_astray}

module _ (l : List ℕ) (hd : Header) (after : List ℕ) (L : LinkedTable l hd.used after)
    (counted : hd.live ≡ odd_count (version_at l hd.used) hd.used) where
  abbrev u : ℕ
  u = hd.used

  abbrev v : ℕ → ℕ
  v = version_at l hd.used

  abbrev n : ℕ → ℕ
  n = next_at l hd.used

  abbrev p : ℕ → ℕ
  p = prev_at l hd.used

  abbrev e : ℕ → ℕ
  e = other_end_at l hd.used

  abbrev x : InsertLinks
  x = insert_links l hd.used

  -- no link that an insert follows goes astray
  run_passes : (k : ℕ) → run_number k l hd x ≡ k
  unfolding run_number
  run_passes k =
      let h = insert_h v n p e u after L in
      let b = insert_b v n p e u after L in
      skipped _ _ _ (both_if (not (eqb x.b 0)) _ (λ t.
      let z : x.b ≢ 0 = eqb-false x.b 0 (not-true _ t) in
      ap not (lt-ltb hd.live (hd.used - 1) (omega (arith, insert_room v n p e u after L z, counted)))))
      ∙ skipped _ _ _ (ap not (eq-eqb (e x.b) x.h b.2))
      ∙ skipped _ _ _ (le-ltb x.b x.h b.1)
      ∙ skipped _ _ _ (not_astray l u x.b b.0.0 b.0.1)
      ∙ skipped _ _ _ (not_astray l u x.h h.0 h.1)

  take_passes : (k : ℕ) → take_number k l hd x ≡ (k ▸ (both (eqb x.b 0) (eqb hd.used (lent_of l)), full))
  unfolding take_number
  take_passes k =
      let f = insert_n v n p e u after L in
      let b = insert_b v n p e u after L in
      ap (λ (k : ℕ). k ▸ (both (eqb x.b 0) (eqb hd.used (lent_of l)), full))
      (skipped _ _ _ (both_if (not (eqb x.h x.b)) _ (λ t.
      let m : x.h ≢ x.b = eqb-false x.h x.b (not-true _ t) in
      not_astray l u (x.b - 1) (omega (arith, b.0.0)) (insert_before v n p e u after L (x.b - 1) (omega (arith, b.1, m)) m)))
      ∙ skipped _ _ _ (both_if (last_slot x) _ (λ t.
      let q = both_true (eqb x.h x.b) _ t in
      let z : x.b ≢ 0 = eqb-false x.b 0 (not-true _ q.1) in
      ne_eqb x.n x.h (insert_n_not_h v n p e u after L (λ y. z (sym (eqb-true x.h x.b q.0) ∙ y)))))
      ∙ skipped _ _ _ (both_if (last_slot x) _ (λ _. not_astray l u x.n f.0 f.1)))

-- the two steps
module _ (l r : List ℕ) (hd : Header) (shape : shape_number l r hd ≡ 0) (after : List ℕ) (L : LinkedTable l hd.used after)
    (counted : hd.live ≡ odd_count (version_at l hd.used) hd.used) (side : List ℕ) (whole : length side ≡ row_words) where
  abbrev m : Machine
  m = machine_of l r hd after

  -- a new slot
  module _ (room : hd.used < lent_of l) where
    link_room : (hd.used + 1) * link_words ≤ length l
    link_room = let s = shaped l r hd shape in omega (arith, s.lent.links_lent)

    row_room : (hd.used + 1) * row_words ≤ length r
    row_room = let s = shaped l r hd shape in omega (arith, s.lent.rows_lent)

    grown_versions : version_at (new_slot l hd.used 1) (hd.used + 1) ≡ put (version_at l hd.used) hd.used 1
    grown_versions = new_version l hd.used 1 (holds_below l (hd.used + 1) hd.used link_room (omega arith))

    grown_rows : row_at (set_row r hd.used side) (hd.used + 1) ≡ put (row_at r hd.used) hd.used side
    grown_rows = row_new r hd.used side (row_below r (hd.used + 1) hd.used row_room (omega arith)) (eq-eqb (length side) row_words whole)

    grown_count : hd.live + 1 ≡ odd_count (version_at (new_slot l hd.used 1) (hd.used + 1)) (hd.used + 1)
    grown_count =
        let f : hd.used + 1 ≡ suc hd.used = omega arith in
        let w = put (version_at l hd.used) hd.used 1 in
        omega (
          arith,
          counted,
          ap (λ (g : ℕ → ℕ). odd_count g (hd.used + 1)) grown_versions,
          ap (odd_count w) f,
          odd_more w hd.used,
          odd_same (version_at l hd.used) w hd.used (λ k q. put_other (version_at l hd.used) hd.used 1 k (λ t. omega arith)),
          ap (λ (y : ℕ). y % 2) (put_same (version_at l hd.used) hd.used 1 hd.used refl),
        )

    grown_shape : shape_number (new_slot l hd.used 1) (set_row r hd.used side) (grown hd) ≡ 0
    grown_shape =
        let s = shaped l r hd shape in
        still_shaped l r (new_slot l hd.used 1) (set_row r hd.used side) hd (grown hd) shape (length_slot l hd.used 1)
        (length_row r hd.used side) (omega arith) (omega arith) (omega (arith, s.few))

    grown_machine : machine_of (new_slot l hd.used 1) (set_row r hd.used side) (grown hd) after ≡ (grown_by m side).machine
    unfolding grown_by
    grown_machine = cc (grown_versions, grown_rows, length_slot l hd.used 1)

    new_does : Does (take_new l r hd side) (grown_by m side)
    unfolding take_new grown_by
    new_does =
        record {
          answer = refl;
          row = refl;
          shows = subst (Shows (new_slot l hd.used 1) (set_row r hd.used side) (grown hd)) grown_machine
              (shows (new_slot l hd.used 1) (set_row r hd.used side) (grown hd) after grown_shape (grown_linked l hd.used after L link_room) grown_count);
        }

  -- the back of the first run
  module _ (some : other_end_at l hd.used (next_at l hd.used 0) ≢ 0) where
    abbrev b : ℕ
    b = other_end_at l hd.used (next_at l hd.used 0)

    abbrev w : ℕ
    w = with_bit (version_at l hd.used b)

    abbrev l₁ : List ℕ
    l₁ = shortened l (insert_links l hd.used)

    abbrev l' : List ℕ
    l' = set_version l₁ b w

    abbrev r' : List ℕ
    r' = set_row r b side

    fits : hd.used * link_words ≤ length l
    fits = links_fit l r hd shape

    back_is : (b < hd.used) × (version_at l hd.used b % 2 ≡ 0)
    back_is = (insert_b _ _ _ _ hd.used after L).0

    filled_versions : version_at l' hd.used ≡ put (version_at l hd.used) b w
    filled_versions =
        version_put l₁ b w hd.used (holds_below l₁ hd.used b (omega (arith, fits, shortened_length l (insert_links l hd.used))) back_is.0)
        ∙ ap (λ (f : ℕ → ℕ). put f b w) (shortened_versions l hd.used (insert_links l hd.used))

    filled_rows : row_at r' hd.used ≡ put (row_at r hd.used) b side
    filled_rows = row_put r b side hd.used (row_below r hd.used b (rows_fit l r hd shape) back_is.0) (eq-eqb (length side) row_words whole)

    filled_length : length l' ≡ length l
    filled_length = length_link l₁ b 0 w ∙ shortened_length l (insert_links l hd.used)

    filled_count : hd.live + 1 ≡ odd_count (version_at l' hd.used) hd.used
    filled_count =
        omega (
          arith,
          counted,
          ap (λ (f : ℕ → ℕ). odd_count f hd.used) filled_versions,
          odd_change (version_at l hd.used) (put (version_at l hd.used) b w) hd.used b back_is.0 (put_other (version_at l hd.used) b w),
          ap (λ (y : ℕ). y % 2) (put_same (version_at l hd.used) b w b refl),
          back_is.1,
        )

    filled_shape : shape_number l' r' (one_more hd) ≡ 0
    filled_shape =
        let s = shaped l r hd shape in
        still_shaped l r l' r' hd (one_more hd) shape filled_length (length_row r b side) s.some s.within
        (omega (arith, insert_room _ _ _ _ hd.used after L some, counted))

    filled_machine : machine_of l' r' (one_more hd) (pick (eqb (first after) b) (later after) after) ≡ (filled_by m side b).machine
    unfolding filled_by
    filled_machine = cc (filled_versions, filled_rows, filled_length)

    back_does : Does (take_slot l₁ r hd side b w) (filled_by m side b)
    unfolding take_slot filled_by
    back_does =
        record {
          answer = refl;
          row = refl;
          shows = subst (Shows l' r' (one_more hd)) filled_machine
              (shows l' r' (one_more hd) (pick (eqb (first after) b) (later after) after) filled_shape
              (filled_linked l hd.used after L fits w (omega (arith, back_is.1)) some) filled_count);
        }

-- the number, and the call
module _ (l r : List ℕ) (hd : Header) (shape : shape_number l r hd ≡ 0) (after : List ℕ) (L : LinkedTable l hd.used after)
    (counted : hd.live ≡ odd_count (version_at l hd.used) hd.used) (side : List ℕ) where
  at_place : place (machine_of l r hd after) ≡ other_end_at l hd.used (next_at l hd.used 0)
  at_place = sym (place_is l hd.used after L)

  insert_number_is : insert_number l r hd side (insert_links l hd.used) ≡ insert_number_on (machine_of l r hd after) side
  unfolding insert_number insert_number_on
  insert_number_is =
      take_passes l hd after L counted _
      ∙ ap (λ (k : ℕ). k ▸ (both (eqb (other_end_at l hd.used (next_at l hd.used 0)) 0) (eqb hd.used (lent_of l)), full))
      (run_passes l hd after L counted _ ∙ side_alone l r hd shape L.fronts.zero_even (length side) row_words)
      ∙ ap (λ (k : ℕ). side_number passes (length side) row_words ▸ (both (eqb k 0) (eqb hd.used (lent_of l)), full)) (sym at_place)

  insert_passed : insert_number_on (machine_of l r hd after) side ≡ 0 →
      (length side ≡ row_words) × (both (eqb (other_end_at l hd.used (next_at l hd.used 0)) 0) (eqb hd.used (lent_of l)) ≡ false)
  unfolding insert_number_on side_number
  insert_passed e =
      let e₂ = passed _ _ _ (omega arith) e in
      let e₁ = passed _ _ _ (omega arith) e₂.0 in
      (eqb-true _ _ (not-false _ e₁.1), rw (sym at_place) e₂.1)

  abbrev stepOn : ℕ → Step
  stepOn b = pick (eqb b 0) (grown_by (machine_of l r hd after) side) (filled_by (machine_of l r hd after) side b)

  step_does : insert_number_on (machine_of l r hd after) side ≡ 0 →
      Does (insert_step l r hd side (insert_links l hd.used)) (stepOn (other_end_at l hd.used (next_at l hd.used 0)))
  unfolding insert_step
  step_does e =
      let f = insert_passed e in
      let b = other_end_at l hd.used (next_at l hd.used 0) in
      by_test (λ (t : Bool). Does
      (pick t (take_new l r hd side) (take_slot (shortened l (insert_links l hd.used)) r hd side b (with_bit (version_at l hd.used b))))
      (pick t (grown_by (machine_of l r hd after) side) (filled_by (machine_of l r hd after) side b))) (eqb b 0)
      (λ z.
      let full-not : hd.used ≢ lent_of l = eqb-false _ _ (both_false (eqb b 0) _ f.1 z) in
      let s = shaped l r hd shape in
      new_does l r hd shape after L counted side f.0 (omega (arith, full-not, s.within)))
      (λ z. back_does l r hd shape after L counted side f.0 (eqb-false b 0 z))

pub insert_does : (l r : List ℕ) (hd : Header) (m : Machine) → Shows l r hd m → (side : List ℕ) → Does (insert_rule l r hd side) (insert_on m side)
unfolding insert_rule insert_by insert_on
insert_does l r hd m s side =
    let after = s.sound.circle.after in
    let L = linked l hd s.sound in
    let c = s.sound.live_count.counted in
    let t : Shows l r hd (machine_of l r hd after) = record { shaped = s.shaped; sound = s.sound; same = refl } in
    subst (λ (x : Machine). Does (insert_rule l r hd side) (insert_on x side)) s.same
    (unless_does l r hd (machine_of l r hd after) t
    (insert_number l r hd side (insert_links l hd.used)) (insert_number_on (machine_of l r hd after) side) (insert_number_is l r hd s.shaped after L c side)
    (insert_step l r hd side (insert_links l hd.used)) (stepOn l r hd s.shaped after L c side (place (machine_of l r hd after)))
    (λ e. subst (λ (b : ℕ). Does (insert_step l r hd side (insert_links l hd.used)) (stepOn l r hd s.shaped after L c side b))
    (sym (at_place l r hd s.shaped after L c side)) (step_does l r hd s.shaped after L c side e)))
