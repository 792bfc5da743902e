-- Remove on a sound table, and the removal of an occupied slot: never refused with 2, and the machine's step. Assumes nothing.
use mathlib.Core.Path.{◌≡◌, refl, sym, ap, ◌∙◌, subst}
use mathlib.Core.List.{List}
use mathlib.Core.Bool.{true, false, not}
use Prim.Native.Nat.{ℕ, zero, suc, ◌-◌, ◌*◌, ◌≤◌, ◌<◌, ◌%◌}
use native.Mathlib.Omega.{arith}
use lib.ListN.{length}
use lib.Dec.{ltb}
use borrow.Author.Tests.{ne_eqb, le-ltb, eqb-true, not-false}
use Rattle.rules.specs.Choice.{both}
use Rattle.rules.specs.Words.{link_words, row_words, version_at, next_at, prev_at, other_end_at, set_version, zero_row, row_at, set_row, is_odd, rise, vacant_by, vacant_at, occupied_by, occupied_at}
use Rattle.rules.specs.Headers.{one_less}
use Rattle.rules.specs.Values.{Outcome, unless}
use Rattle.rules.specs.Refusals.{astray, passes, shape_number, live_by, live_key, live_number}
use Rattle.rules.specs.Access.{key_number}
use Rattle.rules.specs.Runs.{odd_count}
use Rattle.rules.specs.Remove.{beside, apart_number, left_number, right_number, remove_number, freed, remove_step, remove_by, remove_slot, remove_at, remove_rule}
use Rattle.rules.specs.declared.Header.{Header}
use Rattle.rules.specs.declared.Key.{Key}
use Rattle.rules.proofs.Choice.{both_true, both_if}
use Rattle.rules.proofs.Refusals.{passed, skipped}
use Rattle.rules.proofs.Shape.{shaped}
use Rattle.rules.proofs.RemoveSteps.{removed_slot}
use Rattle.rules.proofs.SlotTests.{vacant_yes, vacant_is, occupied_is}
use Rattle.runs.specs.Points.{put}
use Rattle.runs.specs.Machine.{Machine, key_of, machine_of, fronts_after}
use Rattle.runs.specs.Steps.{key_number_on, freed_on, taken_out, remove_on}
use Rattle.runs.specs.Tables.{Shows, Does}
use Rattle.runs.proofs.Points.{put_same, put_other}
use Rattle.runs.proofs.Words.{holds_below, length_link}
use Rattle.runs.proofs.Readers.{version_put}
use Rattle.runs.proofs.Rows.{row_below, row_put, length_row}
use Rattle.runs.proofs.Counts.{rise_even, odd_change, odd_some}
use Rattle.runs.proofs.Followed.{IsVacant, remove_t, remove_right_links, remove_left_link}
use Rattle.runs.proofs.RemoveWords.{near, near_is, freed_linked, freed_versions, freed_length}
use Rattle.runs.proofs.Sound.{LinkedTable, linked}
use Rattle.runs.proofs.Shown.{entry_passes, links_fit, rows_fit, still_shaped, shows, unless_does}

-- a link to a vacant slot in use does not go astray
pub not_astray : (l : List ℕ) (u k : ℕ) → k < u → version_at l u k % 2 ≡ 0 → astray l u k ≡ false
unfolding vacant_at
not_astray l u k h e = ap not (vacant_yes (version_at l u) u k h e)

module _ (l : List ℕ) (hd : Header) (after : List ℕ) (L : LinkedTable l hd.used after)
    (fits : hd.used * link_words ≤ length l) (counted : hd.live ≡ odd_count (version_at l hd.used) hd.used) where
  abbrev u : ℕ
  u = hd.used

  abbrev v : ℕ → ℕ
  v = version_at l hd.used

  abbrev t : ℕ
  t = prev_at l hd.used 0

  some_live : (i : ℕ) → i < u → v i % 2 ≡ 1 → hd.live ≡ 0 → ⊥
  some_live i h o z = omega (arith, odd_some v u i h o, counted)

  -- no link that the removal of an occupied slot follows goes astray
  module _ (j : ℕ) (low : suc j < hd.used) (odd : version_at l hd.used (suc j) % 2 ≡ 1) where
    apart_passes : apart_number l hd (near l u j) ≡ 0
    unfolding apart_number
    apart_passes =
        let f = remove_t v (next_at l u) (prev_at l u) (other_end_at l u) u after L in
        skipped _ _ _ (both_if (both (not (vacant_at l u j)) (not (vacant_at l u (suc (suc j))))) _ (λ _. not_astray l u t f.0 f.1))
        ∙ skipped _ _ _ (ne_eqb hd.live 0 (some_live (suc j) low odd))

    left_leads : vacant_by v u j ≡ true → IsVacant v u (other_end_at l u j) × (other_end_at l u j ≤ j)
    left_leads e = remove_left_link v (next_at l u) (prev_at l u) (other_end_at l u) u after L j low odd (vacant_is v u j e).1

    left_passes : (n : ℕ) → left_number n l hd (near l u j) ≡ n
    unfolding left_number vacant_at
    left_passes n =
        skipped _ _ _ (both_if (vacant_by v u j) _ (λ e. le-ltb j (other_end_at l u j) (left_leads e).1))
        ∙ skipped _ _ _ (both_if (vacant_by v u j) _ (λ e. not_astray l u (other_end_at l u j) (left_leads e).0.0 (left_leads e).0.1))

    abbrev r : ℕ
    r = suc (suc j)

    right_leads : vacant_by v u r ≡ true → IsVacant v u (next_at l u r) × IsVacant v u (prev_at l u r) × IsVacant v u (other_end_at l u r) × (r ≤ other_end_at l u r)
    right_leads e = let q = vacant_is v u r e in remove_right_links v (next_at l u) (prev_at l u) (other_end_at l u) u after L j low odd q.0 q.1

    right_passes : (n : ℕ) → right_number n l hd (near l u j) ≡ n
    unfolding right_number vacant_at
    right_passes n =
        skipped _ _ _ (both_if (vacant_by v u r) _ (λ e. le-ltb (other_end_at l u r) r (right_leads e).3))
        ∙ skipped _ _ _ (both_if (vacant_by v u r) _ (λ e. not_astray l u (other_end_at l u r) (right_leads e).2.0 (right_leads e).2.1))
        ∙ skipped _ _ _ (both_if (vacant_by v u r) _ (λ e. not_astray l u (prev_at l u r) (right_leads e).1.0 (right_leads e).1.1))
        ∙ skipped _ _ _ (both_if (vacant_by v u r) _ (λ e. not_astray l u (next_at l u r) (right_leads e).0.0 (right_leads e).0.1))

    pub removal_passes : remove_number l hd (beside l u (suc j)) ≡ 0
    unfolding remove_number
    removal_passes = rw (near_is l u j) (right_passes _ ∙ left_passes _ ∙ apart_passes)

-- the removal of an occupied slot under its key
module _ (l r : List ℕ) (hd : Header) (shape : shape_number l r hd ≡ 0) (after : List ℕ) (L : LinkedTable l hd.used after)
    (counted : hd.live ≡ odd_count (version_at l hd.used) hd.used) where
  fits : hd.used * link_words ≤ length l
  fits = links_fit l r hd shape

  row_fits : hd.used * row_words ≤ length r
  row_fits = rows_fit l r hd shape

  module _ (j : ℕ) (low : suc j < hd.used) (odd : version_at l hd.used (suc j) % 2 ≡ 1) where
    abbrev i : ℕ
    i = suc j

    abbrev w : ℕ
    w = rise (version_at l hd.used i)

    abbrev l' : List ℕ
    l' = set_version (freed l hd.used i (beside l hd.used i)) i w

    abbrev r' : List ℕ
    r' = set_row r i zero_row

    versions_after : version_at l' hd.used ≡ put (version_at l hd.used) i w
    versions_after =
        version_put (freed l hd.used i (beside l hd.used i)) i w hd.used
        (holds_below _ hd.used i (omega (arith, fits, freed_length l hd.used i (beside l hd.used i))) low)
        ∙ ap (λ (f : ℕ → ℕ). put f i w) (freed_versions l hd.used i (beside l hd.used i))

    rows_after : row_at r' hd.used ≡ put (row_at r hd.used) i zero_row
    rows_after = row_put r i zero_row hd.used (row_below r hd.used i row_fits low) refl

    length_after : length l' ≡ length l
    length_after = length_link (freed l hd.used i (beside l hd.used i)) i 0 w ∙ freed_length l hd.used i (beside l hd.used i)

    count_after : hd.live - 1 ≡ odd_count (version_at l' hd.used) hd.used
    count_after =
        omega (
          arith,
          counted,
          ap (λ (f : ℕ → ℕ). odd_count f hd.used) versions_after,
          odd_change (version_at l hd.used) (put (version_at l hd.used) i w) hd.used i low (put_other (version_at l hd.used) i w),
          ap (λ (x : ℕ). x % 2) (put_same (version_at l hd.used) i w i refl),
          rise_even (version_at l hd.used i) odd,
        )

    shape_after : shape_number l' r' (one_less hd) ≡ 0
    shape_after =
        let s = shaped l r hd shape in
        still_shaped l r l' r' hd (one_less hd) shape length_after (length_row r i zero_row) s.some s.within (omega (arith, s.few))

    machine_after : machine_of l' r' (one_less hd) (fronts_after (version_at l hd.used) hd.used after i) ≡ freed_on (machine_of l r hd after) i
    unfolding freed_on
    machine_after = cc (versions_after, rows_after, length_after)

    freed_does : (y : ℕ) → Does (remove_slot l r hd (record { index = i; version = y })) (taken_out (machine_of l r hd after) (record { index = i; version = y }))
    unfolding remove_slot remove_by unless remove_step
    freed_does y =
        simp (removal_passes l hd after L fits counted j low odd)
        (record {
          answer = refl;
          row = refl;
          shows = subst (Shows l' r' (one_less hd)) machine_after
              (shows l' r' (one_less hd) (fronts_after (version_at l hd.used) hd.used after i) shape_after
              (freed_linked l hd.used after L fits j w low odd (rise_even (version_at l hd.used i) odd)) count_after);
        })

  removal_is : (k : Key) → k.index < hd.used → version_at l hd.used k.index % 2 ≡ 1 → Does (remove_slot l r hd k) (taken_out (machine_of l r hd after) k)
  removal_is k low odd = at k.index low odd k.version
    where
      at : (i : ℕ) → i < hd.used → version_at l hd.used i % 2 ≡ 1 → (y : ℕ) →
          Does (remove_slot l r hd (record { index = i; version = y })) (taken_out (machine_of l r hd after) (record { index = i; version = y }))
      at zero low odd y = absurd (omega (arith, L.fronts.zero_even))
      at (suc j) low odd y = freed_does j low odd y

-- a key that is not turned down is live, and its slot occupied
pub key_live : (n : ℕ) (m : Machine) (k : Key) → key_number_on n m k ≡ 0 → (n ≡ 0) × (live_by m.versions m.used k ≡ true)
unfolding key_number_on
key_live n m k e =
    let e₂ = passed _ _ _ (omega arith) e in
    let e₁ = passed _ _ _ (omega arith) e₂.0 in
    (e₁.0, not-false _ e₂.1)

pub live_occupied : (m : Machine) (k : Key) → live_by m.versions m.used k ≡ true → occupied_by m.versions m.used k.index ≡ true
live_occupied m k e =
    let a = both_true (ltb k.index m.used) _ e in
    let b = both_true (is_odd k.version) _ a.1 in
    let c : m.versions k.index ≡ k.version = eqb-true _ _ b.1 in
    simp (a.0, c, b.0)

module _ (l r : List ℕ) (hd : Header) (m : Machine) (s : Shows l r hd m) where
  pub removal_does : (k : Key) → occupied_by m.versions m.used k.index ≡ true → Does (remove_slot l r hd k) (taken_out m k)
  removal_does k e =
      subst (λ (x : Machine). occupied_by x.versions x.used k.index ≡ true → Does (remove_slot l r hd k) (taken_out x k)) s.same
      (λ e. let o = occupied_is (version_at l hd.used) hd.used k.index e in
      removal_is l r hd s.shaped s.sound.circle.after (linked l hd s.sound) s.sound.live_count.counted k o.0 o.1) e

  -- the removal of a slot under the key that it has
  pub remove_at_does : (q : ℕ) → occupied_by m.versions m.used q ≡ true → Does (remove_at l r hd q) (taken_out m (key_of m q))
  unfolding occupied_at
  remove_at_does q e =
      let o : occupied_by (version_at l hd.used) hd.used q ≡ true = ap (λ (x : Machine). occupied_by x.versions x.used q) s.same ∙ e in
      subst (λ (x : Outcome). Does x (taken_out m (key_of m q))) (sym (removed_slot l r hd q o))
      (subst (λ (x : ℕ). Does (remove_slot l r hd (record { index = q; version = x })) (taken_out m (key_of m q)))
      (ap (λ (x : Machine). x.versions q) (sym s.same)) (removal_does (key_of m q) e))

  -- the number of a key
  pub key_number_is : (k : Key) → key_number l r hd k ≡ key_number_on passes m k
  unfolding key_number live_number live_key key_number_on
  key_number_is k =
      ap (λ (n : ℕ). live_number n l hd k) (entry_passes l r hd s.shaped s.sound.zero_even.even)
      ∙ ap (λ (x : Machine). key_number_on passes x k) s.same

  pub remove_does : (k : Key) → Does (remove_rule l r hd k) (remove_on m k)
  unfolding remove_rule remove_on
  remove_does k =
      unless_does l r hd m s (key_number l r hd k) (key_number_on passes m k) (key_number_is k) (remove_slot l r hd k) (taken_out m k)
      (λ e. removal_does k (live_occupied m k (key_live passes m k e).1))
