-- Start, and a rebuild that is not refused, leave a sound table of the right shape, from any words. Assumes nothing.
use mathlib.Core.Path.{◌≡◌, refl, sym, ap, ◌∙◌, subst, fun_ext}
use mathlib.Core.List.{List, [], ◌∷◌}
use mathlib.Core.Bool.{true}
use Prim.Native.Nat.{ℕ, ◌*◌, ◌≤◌, ◌<◌, ◌%◌}
use native.Mathlib.Decide.{ℕ_discrete}
use native.Mathlib.Omega.{arith}
use lib.ListN.{length}
use borrow.Author.Tests.{eq-eqb, le-ltb}
use Rattle.rules.specs.Choice.{times}
use Rattle.rules.specs.Words.{link_words, row_words, lent_of, link_at, version_at, next_at, prev_at, other_end_at, new_slot, zero_row, row_at, set_row, vacant_at}
use Rattle.rules.specs.Headers.{fresh, rebuilt}
use Rattle.rules.specs.Values.{unless}
use Rattle.rules.specs.Refusals.{lent_number}
use Rattle.rules.specs.Start.{start_rule}
use Rattle.rules.specs.Rebuild.{rebuild_number, relinked, cleared_rows, rebuild_rule}
use Rattle.rules.specs.Runs.{Front, odd_count}
use Rattle.rules.specs.declared.Header.{Header}
use Rattle.rules.proofs.Shape.{Lent, lent}
use Rattle.rules.proofs.Rebuild.{Tested, rebuild_passed}
use Rattle.runs.specs.Points.{put}
use Rattle.runs.specs.Rising.{rising}
use Rattle.runs.specs.WholeTable.{start_on, rebuild_on}
use Rattle.runs.specs.Tables.{Shows, Does}
use Rattle.runs.proofs.Points.{alike_same, alike_other, put_same, put_other}
use Rattle.runs.proofs.Words.{holds, holds_below}
use Rattle.runs.proofs.Readers.{new_version, new_next, new_prev, new_other_end, length_slot}
use Rattle.runs.proofs.Rows.{row_below, row_new, length_row}
use Rattle.runs.proofs.Counts.{odd_none, odd_but_one}
use Rattle.runs.proofs.Sound.{LinkedTable}
use Rattle.runs.proofs.Relinked.{relinked_length, relinked_versions, relinked_linked}
use Rattle.runs.proofs.ClearedRows.{cleared_length, cleared_row}
use Rattle.runs.proofs.Shown.{fits_shape, same_lent, shows}

-- a function that is x everywhere, changed to x
put_flat : {A : Type 0} (f : ℕ → A) (x : A) (i : ℕ) → ((k : ℕ) → f k ≡ x) → put f i x ≡ (λ _. x)
put_flat f x i h = fun_ext (λ k. go k (ℕ_discrete k i))
  where
    go : (k : ℕ) → Dec (k ≡ i) → put f i x k ≡ x
    go k (yes e) = put_same f i x k e
    go k (no n) = put_other f i x k n ∙ h k

module _ (l r : List ℕ) (ok : lent_number (length l) (length r) ≡ 0) where
  t : Lent (length l) (length r) (lent_of l)
  t = lent (length l) (length r) ok

  none_read : (i w : ℕ) → link_at l 0 i w ≡ 0
  unfolding link_at
  none_read i w = simp (le-ltb i 0 (omega arith))

  no_row : (i : ℕ) → row_at r 0 i ≡ zero_row
  unfolding row_at
  no_row i = simp (le-ltb i 0 (omega arith))

  abbrev l' : List ℕ
  l' = new_slot l 0 0

  abbrev r' : List ℕ
  r' = set_row r 0 zero_row

  held : holds l 1 0 ≡ true
  held = holds_below l 1 0 (omega (arith, t.some, t.links_lent)) (omega arith)

  start_versions : version_at l' 1 ≡ (λ _. 0)
  start_versions = new_version l 0 0 held ∙ put_flat (version_at l 0) 0 0 (λ k. none_read k 0)

  start_rows : row_at r' 1 ≡ (λ _. zero_row)
  start_rows = row_new r 0 zero_row (row_below r 1 0 (omega (arith, t.some, t.rows_lent)) (omega arith)) refl ∙ put_flat (row_at r 0) zero_row 0 no_row

  start_even : (i : ℕ) → version_at l' 1 i % 2 ≡ 0
  start_even i = ap (λ (f : ℕ → ℕ). f i % 2) start_versions

  zero_only : (i : ℕ) → i < 1 → i ≡ 0
  zero_only i h = omega arith

  start_linked : LinkedTable l' 1 []
  start_linked =
      record {
        fronts = record {
          zero_even = start_even 0;
          positive = omega arith;
          every = λ k f. omega (arith, alike_same k 0 (zero_only k f.below));
          only = λ k h. on k h (ℕ_discrete k 0);
        };
        seg = (zero_word (next_at l' 1) (next_at l 0) (new_next l 0 0 held), zero_word (prev_at l' 1) (prev_at l 0) (new_prev l 0 0 held));
        ends = λ f b x.
            let e : b ≡ 0 = omega (arith, x.below) in
            let g : f ≡ 0 = omega (arith, x.below, x.ordered) in
            let z = zero_word (other_end_at l' 1) (other_end_at l 0) (new_other_end l 0 0 held) in
            (ap (other_end_at l' 1) g ∙ z ∙ sym e, ap (other_end_at l' 1) e ∙ z ∙ sym g);
      }
    where
      zero_word : (f g : ℕ → ℕ) → f ≡ put g 0 0 → f 0 ≡ 0
      zero_word f g e = ap (λ (h : ℕ → ℕ). h 0) e ∙ put_same g 0 0 0 refl

      on : (k : ℕ) → 1 ≤ times k (0 ∷ []) → Dec (k ≡ 0) → Front (version_at l' 1) 1 k
      on k h (yes e) = record { below = omega arith; vacant = start_even k; starts = λ j q. absurd (omega arith) }
      on k h (no n) = absurd (omega (arith, alike_other k 0 n))

  start_shows : Shows l' r' fresh (start_on (lent_of l)).machine
  start_shows =
      subst (Shows l' r' fresh) (cc (start_versions, start_rows, length_slot l 0 0))
      (shows l' r' fresh []
      (fits_shape l' r' fresh (same_lent l r l' r' ok (length_slot l 0 0) (length_row r 0 zero_row)) (omega arith)
      (omega (arith, t.some, length_slot l 0 0)) (omega arith))
      start_linked (sym (odd_none (version_at l' 1) 1 (λ k _. start_even k))))

pub start_does : (l r : List ℕ) (hd : Header) → lent_number (length l) (length r) ≡ 0 → Does (start_rule l r hd) (start_on (lent_of l))
unfolding start_rule unless
start_does l r hd e = simp (eq-eqb _ 0 e) (record { answer = refl; row = refl; shows = start_shows l r e })

-- rebuild: any words past its tests
module _ (l r bytes : List ℕ) (e : rebuild_number l r bytes ≡ 0) where
  abbrev n : ℕ
  n = length bytes

  rebuild_shows : Shows (relinked l n).links (cleared_rows l n n r) (relinked l n).header
      (rebuild_on (version_at l n) (row_at r n) n (lent_of l)).machine
  unfolding relinked vacant_at
  rebuild_shows =
      subst (Shows (relinked l n).links (cleared_rows l n n r) (rebuilt n (odd_count (version_at l n) n)))
      (cc (relinked_versions l n n, fun_ext (cleared_row l r n row_room), relinked_length l n))
      (shows (relinked l n).links (cleared_rows l n n r) (rebuilt n (odd_count (version_at l n) n)) (rising (version_at l n) n)
      (fits_shape _ _ _ (same_lent l r (relinked l n).links (cleared_rows l n n r) p.sized.may_be_lent (relinked_length l n) (cleared_length l r n n)) p.sized.some
      (omega (arith, p.sized.within, relinked_length l n))
      (odd_but_one (version_at l n) n 0 p.sized.some p.even))
      (relinked_linked l n p.sized.some link_room p.even)
      (ap (λ (v : ℕ → ℕ). odd_count v n) (sym (relinked_versions l n n))))
    where
      p : Tested l r bytes
      p = rebuild_passed l r bytes e

      link_room : n * link_words ≤ length l
      link_room = omega (arith, p.sized.within, p.sized.lent.links_lent)

      row_room : n * row_words ≤ length r
      row_room = omega (arith, p.sized.within, p.sized.lent.rows_lent)

  pub rebuild_does : (hd : Header) → Does (rebuild_rule l r hd bytes)
      (rebuild_on (version_at l n) (row_at r n) n (lent_of l))
  unfolding rebuild_rule unless
  rebuild_does hd = simp (eq-eqb _ 0 e) (record { answer = refl; row = refl; shows = rebuild_shows })
