-- The link words that an insert writes, case by case, keep a table linked and take the chain where the machine does.
-- Assumes nothing.
use mathlib.Core.Path.{◌≡◌, refl, sym, ap, ◌∙◌, subst}
use mathlib.Core.Logic.{◌≢◌}
use mathlib.Core.List.{List, [], ◌∷◌}
use mathlib.Core.Bool.{Bool, true}
use Prim.Native.Nat.{ℕ, suc, ◌+◌, ◌-◌, ◌*◌, ◌≤◌, ◌<◌, ◌%◌}
use native.Mathlib.Omega.{arith}
use lib.ListN.{length}
use lib.Dec.{eqb}
use borrow.Author.Tests.{eqb-true, eqb-false}
use Rattle.rules.specs.Choice.{pick}
use Rattle.rules.specs.Words.{link_words, version_at, next_at, prev_at, other_end_at, set_version, new_slot}
use Rattle.rules.specs.Insert.{insert_links, take_last, take_back, shortened}
use Rattle.rules.specs.declared.steps.InsertLinks.{InsertLinks}
use Rattle.rules.proofs.Choice.{by_test, by_pick}
use Rattle.runs.specs.Points.{put}
use Rattle.runs.specs.Machine.{first, later, back_of}
use Rattle.runs.proofs.Words.{holds, holds_below}
use Rattle.runs.proofs.Readers.{words, new_words}
use Rattle.runs.proofs.Segments.{Seg}
use Rattle.runs.proofs.Backs.{back_of_run}
use Rattle.runs.proofs.Linked.{Linked, first_run}
use Rattle.runs.proofs.Taken.{new_slot_lem, take_last_linked, take_back_linked}
use Rattle.runs.proofs.Followed.{insert_h, insert_b, insert_n}
use Rattle.runs.proofs.Sound.{LinkedTable}

-- a chain that does not begin with 0 begins with a front
begins : (after : List ℕ) (h : ℕ) → h ≡ first after → h ≢ 0 → after ≡ h ∷ later after
begins [] h e n = absurd (n e)
begins (x ∷ after) h e n = ap {B = List ℕ} (λ (k : ℕ). k ∷ after) (sym e)

-- no link that an insert writes is a version
pub shortened_versions : (l : List ℕ) (u : ℕ) (x : InsertLinks) → version_at (shortened l x) u ≡ version_at l u
unfolding shortened take_last take_back
shortened_versions l u x = by_pick (λ (t : List ℕ). version_at t u ≡ version_at l u) (eqb x.h x.b) _ _ (λ _. simp words) (λ _. simp words)

pub shortened_length : (l : List ℕ) (x : InsertLinks) → length (shortened l x) ≡ length l
unfolding shortened take_last take_back
shortened_length l x = by_pick (λ (t : List ℕ). length t ≡ length l) (eqb x.h x.b) _ _ (λ _. simp words) (λ _. simp words)

module _ (l : List ℕ) (u : ℕ) (after : List ℕ) (L : LinkedTable l u after) where
  abbrev v : ℕ → ℕ
  v = version_at l u

  abbrev n : ℕ → ℕ
  n = next_at l u

  abbrev p : ℕ → ℕ
  p = prev_at l u

  abbrev e : ℕ → ℕ
  e = other_end_at l u

  abbrev h : ℕ
  h = next_at l u 0

  abbrev b : ℕ
  b = other_end_at l u (next_at l u 0)

  -- next(0) is the first of the chain, and other_end there the place that the machine finds
  pub first_is : next_at l u 0 ≡ first after
  first_is = at after L.seg
    where
      at : (s : List ℕ) → Seg (next_at l u) (prev_at l u) 0 s 0 → next_at l u 0 ≡ first s
      at [] g = g.0
      at (x ∷ s) g = g.0

  pub place_is : other_end_at l u (next_at l u 0) ≡ back_of (version_at l u) u (first after)
  place_is = sym (back_of_run v u h b (first_run v n p e u after L)) ∙ ap (back_of v u) first_is

  pub grown_linked : (u + 1) * link_words ≤ length l → LinkedTable (new_slot l u 1) (u + 1) after
  grown_linked fits =
      let f : suc u ≡ u + 1 = omega arith in
      simp (new_words, holds_below l (u + 1) u fits (omega arith))
      (subst (λ (k : ℕ). Linked (put v u 1) (put n u 0) (put p u 0) (put e u 0) k after) f (new_slot_lem v n p e u after L 1 refl))

  module _ (fits : u * link_words ≤ length l) (w : ℕ) (odd : w % 2 ≡ 1) (some : other_end_at l u (next_at l u 0) ≢ 0) where
    has : (k : ℕ) → k < u → holds l u k ≡ true
    has k q = holds_below l u k fits q

    last_linked : h ≡ b → LinkedTable (set_version (take_last l (n h)) b w) u (later after)
    unfolding take_last
    last_linked q =
        let f = insert_n v n p e u after L in
        rw (sym q) (simp (words, has 0 (omega (arith, L.fronts.positive)), has (n h) f.0, has h (insert_h v n p e u after L).0)
        (take_last_linked v n p e u after L w odd h (later after) (begins after h first_is (λ t. some (sym q ∙ t))) (sym q)))

    back_linked : (d : ℕ) → suc d ≡ b → h ≢ b → LinkedTable (set_version (take_back l h b) b w) u after
    unfolding take_back
    back_linked d q m =
        let f = insert_b v n p e u after L in
        let o : h ≤ d = omega (arith, f.1) in
        let c : b - 1 ≡ d = omega arith in
        rw (c, sym q) (simp (words, has d (omega (arith, f.0.0)), has h (insert_h v n p e u after L).0, has (suc d) (omega (arith, f.0.0)))
        (take_back_linked v n p e u after L w odd d q o))

    -- the first run without its back, whichever case it is
    pub filled_linked : LinkedTable (set_version (shortened l (insert_links l u)) b w) u (pick (eqb (first after) b) (later after) after)
    unfolding shortened
    filled_linked =
        rw (sym first_is)
        (by_test (λ (t : Bool). LinkedTable (set_version (pick t (take_last l (n h)) (take_back l h b)) b w) u (pick t (later after) after)) (eqb h b)
        (λ q. last_linked (eqb-true h b q))
        (λ q. back_linked (b - 1) (omega arith) (eqb-false h b q)))
