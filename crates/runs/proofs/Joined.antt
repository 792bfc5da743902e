-- A removal on the link words as functions of the slot, case by case, keeps a table linked. Assumes nothing.
use mathlib.Core.Path.{◌≡◌, refl, ap, ◌∙◌, subst}
use mathlib.Core.Logic.{◌≢◌}
use mathlib.Core.List.{List, [], ◌∷◌, ◌++◌}
use Prim.Native.Nat.{ℕ, suc, ◌+◌, ◌≤◌, ◌<◌, ◌%◌}
use native.Mathlib.Omega.{arith}
use Rattle.rules.specs.Choice.{alike, times}
use Rattle.rules.specs.Runs.{Run}
use Rattle.runs.specs.Points.{put}
use Rattle.runs.proofs.Points.{alike_same, alike_other, put_same, put_other, put2_last, put2_first, put2_other}
use Rattle.runs.proofs.Times.{times_append, times_head}
use Rattle.runs.proofs.Segments.{Seg, seg_split, seg_join, seg_last, seg_first, seg_end, seg_start, seg_cut}
use Rattle.runs.proofs.Runs.{Down, Up, meet}
use Rattle.runs.proofs.Fronts.{Fronts, Ended, same_times}
use Rattle.runs.proofs.Freed.{freed_fronts, freed_ends, left_end, left_joined, right_end, right_joined}
use Rattle.runs.proofs.Linked.{Linked, listed_not, not_listed, once, run_from, run_to}

-- slot i = j + 1, occupied, falls vacant with the version w; the slots beside it are j and r
module _ (v n p e : ℕ → ℕ) (u : ℕ) (l : List ℕ) (L : Linked v n p e u l)
    (j w : ℕ) (low : suc j < u) (odd : v (suc j) % 2 ≡ 1) (even : w % 2 ≡ 0) where
  abbrev i : ℕ
  i = suc j

  abbrev r : ℕ
  r = suc (suc j)

  abbrev v' : ℕ → ℕ
  v' = put v i w

  -- slot i is vacant then, and every other version stands
  even' : v' i % 2 ≡ 0
  even' = ap (λ (x : ℕ). x % 2) (put_same v i w i refl) ∙ even

  same : (k : ℕ) → k ≢ i → v' k ≡ v k
  same = put_other v i w

  -- slot i is not in the chain
  not_i : (k : ℕ) → 1 ≤ times k (0 ∷ l) → k ≢ i
  not_i k = listed_not L k i odd

  i_not_listed : times i (0 ∷ l) ≡ 0
  i_not_listed = not_listed L i (λ f. omega (arith, f.vacant))

  -- nor is r, where it is not vacant
  r_not_listed : (r < u → v r % 2 ≡ 1) → times r (0 ∷ l) ≡ 0
  r_not_listed right = not_listed L r (λ f. omega (arith, f.vacant, right f.below))

  -- the left run ends at j
  left_run : v j % 2 ≡ 0 → Run v u (e j) j
  left_run left = run_to L j (omega arith) left (λ _. odd)

  -- the run that holds slot i then goes down to i, or to the front of the left run
  down_to_i : v j % 2 ≡ 1 → Down v' i i
  down_to_i = left_end v v' u j low odd even' same

  down_left : v j % 2 ≡ 0 → Down v' i (e j)
  down_left left = left_joined v v' u j low odd even' same (e j) (left_run left)

  -- and goes up to i, or to the back of the right run
  up_to_i : (r < u → v r % 2 ≡ 1) → Up v' u i i
  up_to_i = right_end v v' u j low odd even' same

  up_right : Run v u r (e r) → Up v' u i (e r)
  up_right = right_joined v v' u j low odd even' same (e r)

  -- the list has the fronts, where each slot stands in it as often as it should
  fronts_after_lem : (l' : List ℕ) → ((k : ℕ) → k ≢ i → k ≢ r → times k l' ≡ times k l)
      → times r l' ≡ 0 → times i l' ≡ v j % 2 → Fronts v' u l'
  fronts_after_lem l' = freed_fronts v v' u j low odd even' same l l' L.fronts

  -- the ends fit, where those of the run that holds slot i are written and no others
  ends_after : (e' : ℕ → ℕ) (f b : ℕ) → Down v' i f → Up v' u i b
      → e' f ≡ b → e' b ≡ f → ((k : ℕ) → k ≢ f → k ≢ b → e' k ≡ e k) → Ended v' u e'
  ends_after e' f b lower upper at_front at_back others =
      freed_ends v v' u j low odd even' same e e' f b (meet lower upper) lower.ordered upper.ordered L.ends at_front at_back
      (λ k h. others k (λ t. omega arith) (λ t. omega (arith, lower.ordered, upper.ordered)))
      (λ k h. others k (λ t. omega (arith, lower.ordered, upper.ordered)) (λ t. omega arith))

  -- a way within the chain from slot 0 to c goes to slot i instead, where i is linked in between prev of c and y
  way_to_i : (a : List ℕ) (c y : ℕ) → Seg n p 0 a c → ((k : ℕ) → times k (0 ∷ a) ≤ times k (0 ∷ l)) → times y a ≡ 0
      → Seg (put (put n (p c) i) i y) (put (put p y i) i (p c)) 0 a i
  way_to_i a c y way within not-y =
      seg_end n p (put (put n (p c) i) i y) (put (put p y i) i (p c)) 0 a c i way (λ k. omega (arith, within k, once L k))
      (put2_first n (p c) i i y (p c) refl (not_i (p c) (omega (arith, within (p c), seg_last n p 0 a c way))))
      (put2_last p y i i (p c) i refl)
      (λ k h m. put2_other n (p c) i i y k m (not_i k (omega (arith, within k))))
      (λ k h. put2_other p y i i (p c) k (λ t. omega (arith, same_times k y a t)) (not_i k (omega (arith, within k))))

  -- neither slot beside is vacant: slot i goes to the end of the chain, a run of its own
  pub apart : v j % 2 ≡ 1 → (r < u → v r % 2 ≡ 1)
      → Linked v' (put (put n (p 0) i) i 0) (put (put p 0 i) i (p 0)) (put e i i) u (l ++ i ∷ [])
  apart left right = record {
    fronts = fronts_after_lem (l ++ i ∷ [])
        (λ k x y. omega (arith, times_append k l (i ∷ []), alike_other k i x))
        (omega (arith, times_append r l (i ∷ []), alike_other r i (λ t. omega arith), r_not_listed right))
        (omega (arith, times_append i l (i ∷ []), alike_same i i refl, i_not_listed));
    seg = seg_join (put (put n (p 0) i) i 0) (put (put p 0 i) i (p 0)) 0 l i [] 0
        (way_to_i l 0 0 L.seg (λ k. omega arith) (omega (arith, once L 0, alike_same 0 0 refl)))
        (put2_last n (p 0) i i 0 i refl, put2_first p 0 i i (p 0) 0 refl (λ t. omega arith));
    ends = ends_after (put e i i) i i (down_to_i left) (up_to_i right)
        (put_same e i i i refl) (put_same e i i i refl) (λ k x y. put_other e i i k x);
  }

  -- the left run alone is joined: the chain stays
  pub join_left_linked : v j % 2 ≡ 0 → (r < u → v r % 2 ≡ 1) → Linked v' n p (put (put e i (e j)) (e j) i) u l
  join_left_linked left right = record {
    fronts = fronts_after_lem l (λ k x y. refl) (omega (arith, r_not_listed right)) (omega (arith, i_not_listed));
    seg = L.seg;
    ends = ends_after (put (put e i (e j)) (e j) i) (e j) i (down_left left) (up_to_i right)
        (put2_last e i (e j) (e j) i (e j) refl)
        (put2_first e i (e j) (e j) i i refl (λ t. omega (arith, (left_run left).ordered)))
        (λ k x y. put2_other e i (e j) (e j) i k y x);
  }

  -- the right run begins at r, which stands in the chain between a and b
  module _ (a b : List ℕ) (q : l ≡ a ++ r ∷ b) where
    -- how often a slot stands in the chain, and that none does twice
    times_of : (k : ℕ) → times k l ≡ times k a + (alike k r + times k b)
    times_of k = ap (times k) q ∙ times_append k a (r ∷ b)

    once_of : (k : ℕ) → times k (0 ∷ a) + (alike k r + times k b) ≤ 1
    once_of k = omega (arith, once L k, times_of k)

    -- the way to r and the way from r
    parts : Seg n p 0 a r × Seg n p r b 0
    parts = seg_split n p 0 a r b 0 (subst (λ (x : List ℕ). Seg n p 0 x 0) q L.seg)

    -- the run from r
    right_run : Run v u r (e r)
    right_run = run_from L r (L.fronts.only r (omega (arith, times_of r, times_head r b)))

    -- prev of r stands before it, next of r after it
    prev_before : 1 ≤ times (p r) (0 ∷ a)
    prev_before = seg_last n p 0 a r parts.0

    next_after : 1 ≤ times (n r) b + alike (n r) 0
    next_after = seg_first n p r b 0 parts.1

    -- the right run alone is joined: slot i takes r's place in the chain
    pub join_right_odd : v j % 2 ≡ 1
        → Linked v' (put (put n (p r) i) i (n r)) (put (put p (n r) i) i (p r)) (put (put e (e r) i) i (e r)) u (a ++ i ∷ b)
    join_right_odd left = record {
      fronts = fronts_after_lem (a ++ i ∷ b)
          (λ k x y. omega (arith, times_append k a (i ∷ b), times_of k, alike_other k i x, alike_other k r y))
          (omega (arith, times_append r a (i ∷ b), once_of r, alike_same r r refl, alike_other r i (λ t. omega arith)))
          (omega (arith, times_append i a (i ∷ b), times_of i, i_not_listed, alike_same i i refl));
      seg = seg_join n' p' 0 a i b 0
          (way_to_i a r (n r) parts.0 (λ k. omega (arith, times_of k)) (omega (arith, once_of (n r), next_after)))
          way_from_i;
      ends = ends_after (put (put e (e r) i) i (e r)) i (e r) (down_to_i left) (up_right right_run)
          (put2_last e (e r) i i (e r) i refl)
          (put2_first e (e r) i i (e r) (e r) refl (λ t. omega (arith, right_run.ordered)))
          (λ k x y. put2_other e (e r) i i (e r) k y x);
    }
      where
        n' : ℕ → ℕ
        n' = put (put n (p r) i) i (n r)

        p' : ℕ → ℕ
        p' = put (put p (n r) i) i (p r)

        not_prev : (k : ℕ) → 1 ≤ times k b → k ≢ p r
        not_prev k h t = omega (arith, once_of (p r), prev_before, same_times k (p r) b t)

        way_from_i : Seg n' p' i b 0
        way_from_i =
            seg_start n p n' p' r b 0 i parts.1 (λ k. omega (arith, once_of k))
            (put2_first p (n r) i i (p r) (n r) refl (not_i (n r) (omega (arith, next_after, times_of (n r)))))
            (put2_last n (p r) i i (n r) i refl)
            (λ k h. put2_other n (p r) i i (n r) k (not_prev k h) (not_i k (omega (arith, times_of k))))
            (λ k h m. put2_other p (n r) i i (p r) k m (not_i k (omega (arith, times_of k))))

    -- both runs are joined: r leaves the chain
    pub join_both_even : v j % 2 ≡ 0
        → Linked v' (put n (p r) (n r)) (put p (n r) (p r)) (put (put e (e j) (e r)) (e r) (e j)) u (a ++ b)
    join_both_even left = record {
      fronts = fronts_after_lem (a ++ b)
          (λ k x y. omega (arith, times_append k a b, times_of k, alike_other k r y))
          (omega (arith, times_append r a b, once_of r, alike_same r r refl))
          (omega (arith, times_append i a b, times_of i, i_not_listed));
      seg = seg_cut n p (put n (p r) (n r)) (put p (n r) (p r)) 0 a r b 0 parts.0 parts.1
          (λ k. omega (arith, once_of k)) (λ k. omega (arith, once_of k))
          (put_same n (p r) (n r) (p r) refl) (put_same p (n r) (p r) (n r) refl)
          (λ k h m. put_other n (p r) (n r) k m) (λ k h m. put_other p (n r) (p r) k m);
      ends = ends_after (put (put e (e j) (e r)) (e r) (e j)) (e j) (e r) (down_left left) (up_right right_run)
          (put2_first e (e j) (e r) (e r) (e j) (e j) refl (λ t. omega (arith, (left_run left).ordered, right_run.ordered)))
          (put2_last e (e j) (e r) (e r) (e j) (e r) refl)
          (λ k x y. put2_other e (e j) (e r) (e r) (e j) k x y);
    }
