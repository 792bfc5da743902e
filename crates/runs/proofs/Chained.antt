-- Runs chained one after another, in rising order, over the words as functions of the slot: what holds after the slots below k,
-- and that the next slot keeps it. Assumes nothing.
use mathlib.Core.Path.{◌≡◌, refl, sym, ap, ◌∙◌, subst}
use mathlib.Core.Logic.{◌≢◌}
use mathlib.Core.List.{List, [], ◌∷◌}
use mathlib.Core.Bool.{Bool, true, false}
use Prim.Native.Nat.{ℕ, zero, suc, ◌≤◌, ◌<◌, ◌%◌}
use native.Mathlib.Decide.{ℕ_discrete, dec_lt}
use native.Mathlib.Omega.{arith}
use borrow.Author.Tests.{not-false}
use Rattle.rules.specs.Choice.{pick, times}
use Rattle.rules.specs.Words.{vacant_by}
use Rattle.rules.specs.Runs.{Front, Run, is_front, is_back, front_of}
use Rattle.rules.proofs.SlotTests.{vacant_no}
use Rattle.runs.specs.Points.{put}
use Rattle.runs.specs.Rising.{fronts_below, rising}
use Rattle.runs.proofs.Points.{alike_other, put_same, put_other, put2_last, put2_first, put2_other}
use Rattle.runs.proofs.Segments.{Seg, seg_join, seg_last, seg_end}
use Rattle.runs.proofs.Runs.{run_same}
use Rattle.runs.proofs.Linked.{Linked}
use Rattle.runs.proofs.RunTests.{no_choice, front_later, front_no, back_by, back_vacant, back_last, back_yes, front_of_run}
use Rattle.runs.proofs.Rising.{rising_none, rising_zero, rising_on, rising_past, rising_once, rising_only, rising_below, rising_run, rising_fronts}

-- the runs that end below slot k are those whose fronts are below this slot
unfoldable pub edge : (ℕ → ℕ) → ℕ → ℕ → ℕ
edge v n k = pick (vacant_by v n k) (front_of v n k) k

-- The runs that end below slot k, of n, are chained: with prev(0) made the last run's front, next and prev go round their
-- fronts in rising order; other_end is right at their ends; and the run that slot k is in, if any, starts at the front in mind
pub record Chained (v next prev other : ℕ → ℕ) (n k front last : ℕ) : Type 0 where
  pub here : vacant_by v n k ≡ true → pick (is_front v n k) k front ≡ front_of v n k
  pub seg : Seg next (put prev 0 last) 0 (fronts_below v n (edge v n k)) 0
  pub ends : (f b : ℕ) → Run v n f b → b < k → (other f ≡ b) × (other b ≡ f)

module _ (v : ℕ → ℕ) (n k : ℕ) where
  -- the front of slot k's run is right for the slot after it
  next_front : (f : ℕ) → (vacant_by v n k ≡ true → f ≡ front_of v n k) → vacant_by v n (suc k) ≡ true →
      pick (is_front v n (suc k)) (suc k) f ≡ front_of v n (suc k)
  unfolding front_of
  next_front f h e = go (vacant_by v n k) refl
    where
      go : (t : Bool) → vacant_by v n k ≡ t → pick (is_front v n (suc k)) (suc k) f ≡ front_of v n (suc k)
      go true t = simp (front_later v n k, e, t) (h t)
      go false t = simp (front_later v n k, e, t)

  -- no run ends at slot k
  no_more : is_back v n k ≡ false → fronts_below v n (edge v n k) ≡ fronts_below v n (edge v n (suc k))
  unfolding edge front_of
  no_more e = go (vacant_by v n k) refl
    where
      go : (t : Bool) → vacant_by v n k ≡ t → fronts_below v n (edge v n k) ≡ fronts_below v n (edge v n (suc k))
      go true t = simp (t, not-false (vacant_by v n (suc k)) (simp (back_by v n k, t) at e))
      go false t = simp (t, no_choice (vacant_by v n (suc k)) (suc k)) (sym (rising_past v n k (front_no v n k t)))

  -- a run ends there
  module _ (f : ℕ) (r : Run v n f k) where
    before : edge v n k ≡ f
    unfolding edge
    before = simp (back_vacant v n r) (front_of_run v n r k r.ordered (omega arith))

    after : fronts_below v n (edge v n (suc k)) ≡ fronts_below v n (suc f)
    unfolding edge
    after = simp (back_last v n r) (rising_run v n f k r k r.ordered (omega arith))

-- the run from f chained after the last one: the way round goes over it too. Slot 0's run is the first, and nothing is added
chain_more : (v next prev : ℕ → ℕ) (n last f : ℕ) → Front v n f → Seg next (put prev 0 last) 0 (fronts_below v n f) 0 →
    Seg (put (put next last f) f 0) (put (put prev f last) 0 f) 0 (fronts_below v n (suc f)) 0
chain_more v next prev n last zero r s =
    rw (rising_zero v n) (put2_last next last 0 0 0 0 refl, put2_last prev 0 last 0 0 0 refl)
chain_more v next prev n last (suc m) r s =
    rw (rising_on v n m r)
    (seg_join next' prev' 0 way f [] 0
    (seg_end next (put prev 0 last) next' prev' 0 way 0 f s (rising_once v n f)
    (ap next' end ∙ put2_first next last f f 0 last refl (before last (subst (λ (x : ℕ). 1 ≤ times x (0 ∷ way)) end (seg_last next (put prev 0 last) 0 way 0 s))))
    (put2_first prev f last 0 f f refl (λ t. omega arith) ∙ sym end)
    (λ k h t. put2_other next last f f 0 k (λ q. t (q ∙ sym end)) (before k h))
    (λ k h. put2_other prev f last 0 f k (before k (omega arith)) (not_first k h) ∙ sym (put_other prev 0 last k (not_first k h))))
    (put2_last next last f f 0 f refl, put2_last prev f last 0 f 0 refl))
  where
    f : ℕ
    f = suc m

    way : List ℕ
    way = fronts_below v n f

    next' : ℕ → ℕ
    next' = put (put next last f) f 0

    prev' : ℕ → ℕ
    prev' = put (put prev f last) 0 f

    end : put prev 0 last 0 ≡ last
    end = put_same prev 0 last 0 refl

    before : (k : ℕ) → 1 ≤ times k (0 ∷ way) → k ≢ f
    before k h t = omega (arith, rising_below v n f k (omega arith) h)

    not_first : (k : ℕ) → 1 ≤ times k way → k ≢ 0
    not_first k h t = omega (arith, (rising_only v n k f h).0)

module _ (v next prev other : ℕ → ℕ) (n k front last : ℕ) (C : Chained v next prev other n k front last) where
  -- slot k is no back: its front, if it is one, is kept in mind
  pub pass : is_back v n k ≡ false → Chained v next prev other n (suc k) (pick (is_front v n k) k front) last
  pass e = record {
    here = next_front v n k (pick (is_front v n k) k front) C.here;
    seg = subst (λ (l : List ℕ). Seg next (put prev 0 last) 0 l 0) (no_more v n k e) C.seg;
    ends = λ f b r h. C.ends f b r (lower f b r h (ℕ_discrete b k));
  }
    where
      lower : (f b : ℕ) → Run v n f b → b < suc k → Dec (b ≡ k) → b < k
      lower f b r h (yes t) =
          let both_ways : true ≡ false = sym (back_yes v n r) ∙ ap (is_back v n) t ∙ e in
          let z : ◌≡◌ {A = ℕ} 0 1 = cc in
          omega arith
      lower f b r h (no t) = omega arith

  -- slot k is the back of the run from f, which is chained after the last one
  module _ (f : ℕ) (r : Run v n f k) where
    pub join : Chained v (put (put next last f) f 0) (put prev f last) (put (put other k f) f k) n (suc k) f f
    join = record {
      here = next_front v n k f (λ _. sym (front_of_run v n r k r.ordered (omega arith)));
      seg = rw (after v n k f r) (chain_more v next prev n last f r.front (rw (before v n k f r) at C.seg));
      ends = λ g b s h. ends g b s h (ℕ_discrete b k);
    }
      where
        other' : ℕ → ℕ
        other' = put (put other k f) f k

        back : (b : ℕ) → b ≡ k → Dec (b ≡ f) → other' b ≡ f
        back b e (yes q) = put2_last other k f f k b q ∙ sym e ∙ q
        back b e (no q) = put2_first other k f f k b e q

        apart : (g b : ℕ) → Run v n g b → b < k → Dec (b < f) → b < f
        apart g b s h (yes q) = q
        apart g b s h (no q) = absurd (omega (arith, s.ordered, (run_same v n g b f k s r (omega (arith, s.ordered)) (omega arith)).1))

        ends : (g b : ℕ) → Run v n g b → b < suc k → Dec (b ≡ k) → (other' g ≡ b) × (other' b ≡ g)
        ends g b s h (yes e) =
            let q = (run_same v n g b f k s r (omega (arith, s.ordered)) (omega (arith, r.ordered))).0 in
            (put2_last other k f f k g q ∙ sym e, back b e (ℕ_discrete b f) ∙ sym q)
        ends g b s h (no t) =
            let o = C.ends g b s (omega arith) in
            let low = apart g b s (omega arith) (dec_lt b f) in (
              put2_other other k f f k g (λ q. omega (arith, s.ordered)) (λ q. omega (arith, s.ordered)) ∙ o.0,
              put2_other other k f f k b t (λ q. omega arith) ∙ o.1,
            )

  -- the last run's front is a slot in use
  pub last_in_use : 0 < n → last < n
  last_in_use p = go (ℕ_discrete last 0)
    where
      on : 1 ≤ times last (0 ∷ fronts_below v n (edge v n k))
      on =
          subst (λ (x : ℕ). 1 ≤ times x (0 ∷ fronts_below v n (edge v n k))) (put_same prev 0 last 0 refl)
          (seg_last next (put prev 0 last) 0 (fronts_below v n (edge v n k)) 0 C.seg)

      go : Dec (last ≡ 0) → last < n
      go (yes e) = omega arith
      go (no t) = (rising_only v n last (edge v n k) (omega (arith, on, alike_other last 0 t))).2.below

-- at the start, with next(0) zero, no run is chained
pub none_yet : (v next prev other : ℕ → ℕ) (n : ℕ) → next 0 ≡ 0 → Chained v next prev other n 0 0 0
unfolding edge front_of
none_yet v next prev other n e = record {
  here = λ _. no_choice (is_front v n 0) 0;
  seg = simp (no_choice {A = ℕ} (vacant_by v n 0) 0, rising_none v n) (e, put_same prev 0 0 0 refl);
  ends = λ f b r h. absurd (omega arith);
}

-- at the end, with prev(0) made the last run's front, the table is linked
pub all_linked : (v next prev other : ℕ → ℕ) (n front last : ℕ) → 0 < n → v 0 % 2 ≡ 0 → Chained v next prev other n n front last →
    Linked v next (put prev 0 last) other n (rising v n)
unfolding edge
all_linked v next prev other n front last p z C = record {
  fronts = rising_fronts v n p z;
  seg = simp (vacant_no v n n (λ h. absurd (omega arith))) at C.seg;
  ends = λ f b r. C.ends f b r r.below;
}
