-- An insert on the link words as functions of the slot, case by case, keeps a table linked. Assumes nothing.
use mathlib.Core.Path.{◌≡◌, refl, sym, ap, ◌∙◌, subst}
use mathlib.Core.Logic.{◌≢◌}
use mathlib.Core.List.{List, [], ◌∷◌}
use Prim.Native.Nat.{ℕ, suc, ◌+◌, ◌≤◌, ◌<◌, ◌%◌}
use native.Mathlib.Decide.{ℕ_discrete}
use native.Mathlib.Omega.{arith}
use Rattle.rules.specs.Choice.{alike, times}
use Rattle.rules.specs.Runs.{Front, Run}
use Rattle.runs.specs.Points.{put}
use Rattle.runs.proofs.Points.{alike_same, alike_other, put_same, put_other, put2_last, put2_first, put2_other}
use Rattle.runs.proofs.Times.{times_head}
use Rattle.runs.proofs.Segments.{Seg, seg_frame, seg_cut}
use Rattle.runs.proofs.Filled.{filled_fronts, last_ends, back_ends}
use Rattle.runs.proofs.Grown.{grown_fronts, grown_ends}
use Rattle.runs.proofs.Linked.{Linked, not_listed, once, run_from, first_run}

-- a slot becomes occupied with the version w
module _ (v n p e : ℕ → ℕ) (u : ℕ) (l : List ℕ) (L : Linked v n p e u l) (w : ℕ) (odd : w % 2 ≡ 1) where
  -- wherever it is put it is odd
  odd_at : (k : ℕ) → put v k w k % 2 ≡ 1
  odd_at k = ap (λ (x : ℕ). x % 2) (put_same v k w k refl) ∙ odd

  -- what is put at slot u changes nothing below it
  below_u : (f : ℕ → ℕ) (x k : ℕ) → k < u → put f u x k ≡ f k
  below_u f x k h = put_other f u x k (λ t. omega arith)

  -- slot u comes into use: the chain stays
  pub new_slot_lem : Linked (put v u w) (put n u 0) (put p u 0) (put e u 0) (suc u) l
  new_slot_lem = record {
    fronts = grown_fronts v (put v u w) u (odd_at u) (below_u v w) l L.fronts;
    seg = seg_frame n p (put n u 0) (put p u 0) 0 l 0 L.seg
        (λ k h. below_u n 0 k (L.fronts.only k h).below)
        (λ k h. below_u p 0 k (L.fronts.only k (omega arith)).below);
    ends = grown_ends v (put v u w) u (odd_at u) (below_u v w) e (put e u 0) (below_u e 0) L.ends;
  }

  -- the first run is slot h alone
  module _ (h : ℕ) (m : List ℕ) (q : l ≡ h ∷ m) (alone : e h ≡ h) where
    -- how often a slot stands in the chain, and that none does twice
    times_of : (k : ℕ) → times k l ≡ alike k h + times k m
    times_of k = ap (times k) q

    once_of : (k : ℕ) → alike k 0 + (alike k h + times k m) ≤ 1
    once_of k = omega (arith, once L k, times_of k)

    -- the way over h
    way : Seg n p 0 (h ∷ m) 0
    way = subst (λ (x : List ℕ). Seg n p 0 x 0) q L.seg

    run_alone : Run v u h h
    run_alone = subst (Run v u h) alone (run_from L h (L.fronts.only h (omega (arith, times_of h, times_head h m))))

    -- it is not slot 0's run
    not_0 : h ≢ 0
    not_0 t = omega (arith, once_of h, times_head h m, alike_same h 0 t)

    -- slot h is taken: it leaves the chain
    pub take_last_linked : Linked (put v h w) (put n 0 (n h)) (put p (n h) 0) e u m
    take_last_linked = record {
      fronts = filled_fronts v (put v h w) u h h run_alone (odd_at h) (put_other v h w) l m not_0 L.fronts
          (λ k x. omega (arith, times_of k, alike_other k h x))
          (omega (arith, once_of h, alike_same h h refl));
      seg = seg_cut n p (put n 0 (n h)) (put p (n h) 0) 0 [] h m 0 (way.0, way.1) way.2
          (λ k. omega (arith, once_of k)) (λ k. omega (arith, once_of k))
          (put_same n 0 (n h) (p h) way.1) (put_same p (n h) 0 (n h) refl ∙ sym way.1)
          (λ k x y. put_other n 0 (n h) k (λ t. y (t ∙ sym way.1))) (λ k x y. put_other p (n h) 0 k y);
      ends = last_ends v (put v h w) u h h run_alone (odd_at h) (put_other v h w) e e refl (λ k x. refl) L.ends;
    }

  -- the first run goes from h to b = d + 1, and is longer than one slot
  module _ (d : ℕ) (q : suc d ≡ e (n 0)) (ordered : n 0 ≤ d) where
    abbrev h : ℕ
    h = n 0

    abbrev b : ℕ
    b = suc d

    run_longer : Run v u h b
    run_longer = subst (Run v u h) (sym q) (first_run v n p e u l L)

    -- its back is no front
    no_front : Front v u b → ⊥
    no_front f = omega (arith, f.starts d refl, run_longer.vacant d ordered (omega arith))

    -- the new back d has its front written, though d may be h itself
    at_d : Dec (d ≡ h) → put (put e d h) h d d ≡ h
    at_d (yes t) = put2_last e d h h d d t ∙ t
    at_d (no t) = put2_first e d h h d d refl t

    -- slot b is taken: the run ends at d, the chain stays
    pub take_back_linked : Linked (put v b w) n p (put (put e d h) h d) u l
    take_back_linked = record {
      fronts = filled_fronts v (put v b w) u h b run_longer (odd_at b) (put_other v b w) l l (λ t. omega arith) L.fronts
          (λ k x. refl) (omega (arith, not_listed L b no_front));
      seg = L.seg;
      ends = back_ends v (put v b w) u h b run_longer (odd_at b) (put_other v b w) e (put (put e d h) h d) d refl ordered
          (put2_last e d h h d h refl) (at_d (ℕ_discrete d h))
          (λ k x. put2_other e d h h d k (λ t. omega arith) (λ t. omega arith))
          (λ k x. put2_other e d h h d k (λ t. omega arith) (λ t. omega arith))
          L.ends;
    }
