-- A circle over fronts alone that takes as many steps as there are runs meets every front once. Assumes nothing.
use mathlib.Core.Bool.{Bool, true, false}
use mathlib.Core.List.{List, [], ◌∷◌}
use mathlib.Core.Logic.{◌≢◌}
use mathlib.Core.Path.{◌≡◌, refl, ap, subst}
use Prim.Native.Nat.{ℕ, zero, suc, ◌+◌, ◌≤◌, ◌<◌}
use native.Mathlib.Decide.{ℕ_discrete, dec_le}
use native.Mathlib.Omega.{arith}
use lib.ListN.{length, length-append}
use Rattle.rules.specs.Choice.{one_if, alike, times, count_below}
use Rattle.rules.specs.Runs.{Front, is_front, run_count}
use Rattle.runs.proofs.Points.{alike_same, alike_other}
use Rattle.runs.proofs.Times.{times_append, times_split, times_less, times_once, times_each}
use Rattle.runs.proofs.Segments.{Seg, seg_split, seg_unique}
use Rattle.runs.proofs.Fronts.{Fronts, fronts_once, same_times}
use Rattle.runs.proofs.Counts.{count_more, count_none_yet}
use Rattle.runs.proofs.RunTests.{front_is, front_yes}

-- a way that meets its end only there has nothing twice: from a second meeting on it would be as long as from the first
pub seg_once : (n p : ℕ → ℕ) (a : ℕ) (l : List ℕ) (b : ℕ) → Seg n p a l b → times b l ≡ 0 → (k : ℕ) → times k l ≤ 1
seg_once n p a [] b s h k = omega arith
seg_once n p a (x ∷ l) b s h k = go (ℕ_discrete k x) (dec_le 1 (times k l)) (seg_once n p x l b s.2 (omega arith) k)
  where
    go : Dec (k ≡ x) → Dec (1 ≤ times k l) → times k l ≤ 1 → alike k x + times k l ≤ 1
    go (no m) _ ih = omega (arith, alike_other k x m)
    go (yes e) (no m) ih = omega (arith, alike_same k x e)
    go (yes e) (yes r) ih =
        let c = times_split k l r in
        let tail = (seg_split n p x c.0 k c.1 b (subst (λ (m : List ℕ). Seg n p x m b) c.2 s.2)).1 in
        let off : times b c.1 ≡ 0 = omega (arith, ap (times b) c.2, times_append b c.0 (k ∷ c.1)) in
        let same = seg_unique n p x l c.1 b s.2 (subst (λ (y : ℕ). Seg n p y c.1 b) e tail) (omega arith) off in
        absurd (omega (arith, ap length same, ap length c.2, length-append c.0 (k ∷ c.1)))

module _ (t : ℕ → Bool) where
  -- different numbers below n that the test holds of are no more than it counts
  pub count_least : (n : ℕ) (l : List ℕ) → ((k : ℕ) → times k l ≤ 1) → ((k : ℕ) → 1 ≤ times k l → (k < n) × (t k ≡ true))
      → length l ≤ count_below n t
  count_least zero [] once h = omega arith
  count_least zero (x ∷ l) once h = let w = h x (omega (arith, alike_same x x refl)) in absurd (omega arith)
  count_least (suc n) l once h = go (dec_le 1 (times n l)) (count_least n)
    where
      go : Dec (1 ≤ times n l)
          → ((m : List ℕ) → ((k : ℕ) → times k m ≤ 1) → ((k : ℕ) → 1 ≤ times k m → (k < n) × (t k ≡ true)) → length m ≤ count_below n t)
          → length l ≤ count_below (suc n) t
      go (no q) ih = omega (
        arith,
        count_more t n,
        ih l once (λ k j.
            let other : k ≢ n = λ e. q (omega (arith, same_times k n l e)) in
            let w = h k j in
            (omega arith, w.1)),
      )
      go (yes q) ih =
          let c = times_less n l q in
          omega (
            arith,
            count_more t n,
            ap one_if (h n q).1,
            c.2,
            ih c.0 (λ k. omega (arith, once k, c.1 k)) (λ k j.
                let other : k ≢ n = λ e. omega (arith, same_times k n c.0 e, once n, c.1 n, alike_same n n refl) in
                let w = h k (omega (arith, c.1 k)) in
                (omega arith, w.1)),
          )

  -- and a list that has them all is at least as long as that
  pub count_most : (n : ℕ) (l : List ℕ) → ((k : ℕ) → k < n → t k ≡ true → 1 ≤ times k l) → count_below n t ≤ length l
  count_most zero l h = omega (arith, count_none_yet t)
  count_most (suc n) l h = go (t n) refl (count_most n)
    where
      go : (b : Bool) → t n ≡ b
          → ((m : List ℕ) → ((k : ℕ) → k < n → t k ≡ true → 1 ≤ times k m) → count_below n t ≤ length m)
          → count_below (suc n) t ≤ length l
      go false e ih = omega (arith, count_more t n, ap one_if e, ih l (λ k j. h k (omega arith)))
      go true e ih =
          let c = times_less n l (h n (omega arith) e) in
          omega (
            arith,
            count_more t n,
            ap one_if e,
            c.2,
            ih c.0 (λ k j w.
                omega (arith, h k (omega arith) w, c.1 k, alike_other k n (λ q. omega arith))),
          )

module _ (v : ℕ → ℕ) (u : ℕ) (l : List ℕ) where
  pub fronts_length : Fronts v u l → suc (length l) ≡ run_count v u
  fronts_length i = omega (
    arith,
    count_least (is_front v u) u (0 ∷ l) (fronts_once v u l i) (λ k h. ((i.only k h).below, front_yes v u k (i.only k h))),
    count_most (is_front v u) u (0 ∷ l) (λ k _ h. omega (arith, i.every k (front_is v u k h))),
  )

  -- a front that such a circle did not meet would be one front too many
  pub meets_all : (n p : ℕ → ℕ) → Seg n p 0 l 0 → times 0 l ≡ 0 → ((k : ℕ) → 1 ≤ times k (0 ∷ l) → Front v u k)
      → run_count v u ≤ suc (length l) → Fronts v u l
  meets_all n p s off only few = record {
    zero_even = zero_front.vacant;
    positive = zero_front.below;
    every = λ k f. every k f (dec_le 1 (times k (0 ∷ l)));
    only = only;
  }
    where
      zero_front : Front v u 0
      zero_front = only 0 (omega (arith, alike_same 0 0 refl))

      once : (k : ℕ) → times k (0 ∷ l) ≤ 1
      once = times_once 0 l off (seg_once n p 0 l 0 s off)

      every : (k : ℕ) → Front v u k → Dec (1 ≤ times k (0 ∷ l)) → times k (0 ∷ l) ≡ 1
      every k f (yes h) = omega (arith, once k)
      every k f (no m) = absurd (omega (
        arith,
        count_least (is_front v u) u (k ∷ 0 ∷ l) (times_once k (0 ∷ l) (omega arith) once)
            (λ j h. let g = times_each (Front v u) k (0 ∷ l) f only j h in (g.below, front_yes v u j g)),
      ))
