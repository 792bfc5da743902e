-- The soundness check accepts exactly the sound tables, whatever the words are. Assumes nothing.
use mathlib.Core.Bool.{Bool, true, not}
use mathlib.Core.List.{List, [], ◌∷◌}
use mathlib.Core.Logic.{◌≢◌}
use mathlib.Core.Path.{◌≡◌, refl, sym, ap, subst}
use Prim.Native.Nat.{ℕ, zero, suc, ◌≤◌}
use native.Mathlib.Omega.{arith}
use lib.Dec.{eqb}
use lib.ListN.{length}
use borrow.Author.Tests.{eqb-true, eqb-false, eq-eqb, ne_eqb, not-false}
use Rattle.rules.specs.Choice.{pick, times}
use Rattle.rules.specs.Words.{is_even, version_at, next_at, prev_at, other_end_at}
use Rattle.rules.specs.Values.{Values, plain, done, refusal, unless}
use Rattle.rules.specs.Refusals.{◌▸◌, damaged, entry_number}
use Rattle.rules.specs.Runs.{Front, is_back, run_count}
use Rattle.rules.specs.Sound.{Sound}
use Rattle.rules.specs.Check.{ends_test, circle_test, sound_test, sound_number, check_rule}
use Rattle.rules.specs.declared.Header.{Header}
use Rattle.rules.proofs.Choice.{by_pick, both_true}
use Rattle.rules.proofs.Refusals.{passed}
use Rattle.runs.proofs.Points.{alike_same, alike_other}
use Rattle.runs.proofs.Times.{times_each}
use Rattle.runs.proofs.Segments.{Seg}
use Rattle.runs.proofs.Fronts.{Ended}
use Rattle.runs.proofs.Sound.{LinkedTable, linked, sound, off_zero}
use Rattle.runs.proofs.RunTests.{is_true, is_false, test_all, all_test, front_is, front_yes, front_of_run, back_is, back_yes}
use Rattle.runs.proofs.Circles.{fronts_length, meets_all}

-- from slot x next comes to 0 in n steps and no sooner, over fronts alone, and prev undoes each step
record Comes (l : List ℕ) (used n x : ℕ) : Type 0 where
  over : List ℕ
  seg : Seg (next_at l used) (prev_at l used) x over 0
  no_sooner : times 0 over ≡ 0
  fronts : (k : ℕ) → 1 ≤ times k (0 ∷ over) → Front (version_at l used) used k
  steps : suc (length over) ≡ n

module _ (l : List ℕ) (used : ℕ) where
  test_ends : ends_test l used ≡ true → Ended (version_at l used) used (other_end_at l used)
  unfolding ends_test
  test_ends h f b r =
      let e = front_of_run _ _ r b r.ordered (omega arith) in
      let t = both_true _ _ (rw (back_yes _ _ r, e) at (test_all used _ h b r.below)) in
      (eqb-true _ _ t.0, eqb-true _ _ t.1)

  ends_test_lem : Ended (version_at l used) used (other_end_at l used) → ends_test l used ≡ true
  unfolding ends_test
  ends_test_lem e = all_test used _ (λ i _.
      by_pick (λ (t : Bool). t ≡ true) (not (is_back (version_at l used) used i)) true _ (λ _. refl) (λ h.
      let o = e _ i (back_is _ _ i (not-false _ h)) in
      simp (eq-eqb _ _ o.0, eq-eqb _ _ o.1)))

  test_circle : (n x : ℕ) → circle_test l used n x ≡ true → Comes l used n x
  unfolding circle_test
  test_circle zero x h = absurd (eqb-false 0 1 refl (cc))
  test_circle (suc n) x h =
      let t = both_true _ _ h in
      let w = both_true _ _ t.0 in
      go (next_at l used x) refl (front_is _ _ _ w.0) (eqb-true _ _ w.1) t.1 (test_circle n _)
    where
      go : (y : ℕ) → next_at l used x ≡ y → Front (version_at l used) used y → prev_at l used y ≡ x
          → pick (eqb y 0) (eqb n 0) (circle_test l used n y) ≡ true → (circle_test l used n y ≡ true → Comes l used n y)
          → Comes l used (suc n) x
      go zero there front back h ih = record {
        over = [];
        seg = (there, back);
        no_sooner = refl;
        fronts = times_each _ 0 [] front (λ k j. absurd (omega arith));
        steps = ap suc (sym (eqb-true n 0 h));
      }
      go (suc y) there front back h ih =
          let other : suc y ≢ 0 = λ e. omega arith in
          let c = ih (rw (ne_eqb (suc y) 0 other) at h) in
          record {
            over = suc y ∷ c.over;
            seg = (there, back, c.seg);
            no_sooner = omega (arith, c.no_sooner, alike_other 0 (suc y) (λ e. omega arith));
            fronts = λ k j. times_each _ (suc y) (0 ∷ c.over) front c.fronts k (omega arith);
            steps = omega (arith, c.steps);
          }

  circle_test_lem : (n x : ℕ) → Comes l used n x → circle_test l used n x ≡ true
  unfolding circle_test
  circle_test_lem n x c =
      subst (λ (m : ℕ). circle_test l used m x ≡ true) c.steps (follow c.over x c.seg c.no_sooner c.fronts)
    where
      follow : (over : List ℕ) (x : ℕ) → Seg (next_at l used) (prev_at l used) x over 0 → times 0 over ≡ 0
          → ((k : ℕ) → 1 ≤ times k (0 ∷ over) → Front (version_at l used) used k)
          → circle_test l used (suc (length over)) x ≡ true
      follow [] x s off f =
          simp (s.0, front_yes _ _ 0 (f 0 (omega (arith, alike_same 0 0 refl))), eq-eqb (prev_at l used 0) x s.1)
      follow (y ∷ m) x s off f = simp (
        s.0,
        front_yes _ _ y (f y (omega (arith, alike_same y y refl))),
        eq-eqb (prev_at l used y) x s.1,
        ne_eqb y 0 (λ e. omega (arith, alike_same 0 y (sym e))),
        follow m y s.2 (omega arith) (λ k h. f k (omega arith)),
      )

  -- a circle from 0 of as many steps as there are runs, and right ends: that is a linked table
  circle_linked : (c : Comes l used (run_count (version_at l used) used) 0) → Ended (version_at l used) used (other_end_at l used)
      → LinkedTable l used c.over
  circle_linked c ends = record {
    fronts = meets_all _ _ c.over _ _ c.seg c.no_sooner c.fronts (omega (arith, c.steps));
    seg = c.seg;
    ends = ends;
  }

  linked_circle : (after : List ℕ) → LinkedTable l used after → Comes l used (run_count (version_at l used) used) 0
  linked_circle after L = record {
    over = after;
    seg = L.seg;
    no_sooner = off_zero _ _ _ L.fronts;
    fronts = L.fronts.only;
    steps = fronts_length _ _ _ L.fronts;
  }

module _ (l : List ℕ) (hd : Header) where
  pub test_sound : sound_test l hd ≡ true → Sound l hd
  unfolding sound_test
  test_sound h =
      let t₁ = both_true (is_even (version_at l hd.used 0)) _ h in
      let t₂ = both_true _ _ t₁.1 in
      let t₃ = both_true _ _ t₂.1 in
      let c = test_circle l hd.used _ 0 t₃.1 in
      sound l hd c.over (circle_linked l hd.used c (test_ends l hd.used t₃.0)) (eqb-true _ _ t₂.0)

  pub sound_tests : Sound l hd → sound_test l hd ≡ true
  unfolding sound_test
  sound_tests s =
      let L = linked l hd s in
      simp (
        eq-eqb _ _ s.zero_even.even,
        eq-eqb _ _ s.live_count.counted,
        ends_test_lem l hd.used L.ends,
        circle_test_lem l hd.used _ 0 (linked_circle l hd.used _ L),
      )

  -- the same of the number: none is added exactly where the table is sound
  pub sound_passed : (n : ℕ) → sound_number n l hd ≡ 0 → (n ≡ 0) × Sound l hd
  unfolding sound_number
  sound_passed n h = let p = passed n _ damaged (omega arith) h in (p.0, test_sound (not-false _ p.1))

  pub sound_passes : (n : ℕ) → Sound l hd → sound_number n l hd ≡ n
  unfolding sound_number ◌▸◌
  sound_passes n s = simp (sound_tests s) (by_pick (λ (m : ℕ). m ≡ n) (eqb n 0) 0 n (λ e. sym (eqb-true n 0 e)) (λ _. refl))

-- the call is done exactly where entry gives no number and the table is sound; else it gives entry's number, or 2, and changes nothing
module _ (l r : List ℕ) (hd : Header) where
  pub check_accepts : entry_number l r hd ≡ 0 → Sound l hd → check_rule l r hd ≡ plain done hd l r
  unfolding check_rule unless
  check_accepts e s = simp (e, sound_passes l hd 0 s)

  pub check_refuses : entry_number l r hd ≡ 0 → (Sound l hd → ⊥) → check_rule l r hd ≡ refusal l r hd damaged
  unfolding check_rule unless sound_number ◌▸◌
  check_refuses e u = simp (e, is_false (sound_test l hd) (λ t. u (test_sound l hd t)))

  pub check_entry : entry_number l r hd ≢ 0 → check_rule l r hd ≡ refusal l r hd (entry_number l r hd)
  unfolding check_rule unless sound_number ◌▸◌
  check_entry n = simp (ne_eqb _ _ n)

  pub checked : (check_rule l r hd).answer ≡ done → (entry_number l r hd ≡ 0) × Sound l hd
  unfolding check_rule unless
  checked h = sound_passed l hd _ (eqb-true _ _ (is_true _ (λ n.
      let kinds = ap (λ (v : Values). v.kind) (rw n at h) in
      eqb-false 0 1 refl (cc))))
