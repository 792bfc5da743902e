-- A doubly linked way through slots, by next and prev, and the four ways to edit it. Assumes nothing.
use mathlib.Core.Path.{◌≡◌, refl, sym, ap, ◌∙◌, subst}
use mathlib.Core.Logic.{◌≢◌}
use mathlib.Core.List.{List, [], ◌∷◌, ◌++◌}
use Prim.Native.Nat.{ℕ, ◌+◌, ◌≤◌}
use native.Mathlib.Omega.{arith}
use Rattle.rules.specs.Choice.{alike, times}
use Rattle.runs.proofs.Points.{alike_same}
use Rattle.runs.proofs.Times.{times_head}

-- a doubly linked segment: from a over the list to b
abbrev pub Seg : (ℕ → ℕ) → (ℕ → ℕ) → ℕ → List ℕ → ℕ → Type 0
Seg n p a [] b = (n a ≡ b) × (p b ≡ a)
Seg n p a (x ∷ l) b = (n a ≡ x) × (p x ≡ a) × Seg n p x l b

module _ (n p : ℕ → ℕ) where
  -- a way over x is a way to x and a way from x; the two joined are it again
  pub seg_split : (a : ℕ) (l : List ℕ) (x : ℕ) (m : List ℕ) (b : ℕ) → Seg n p a (l ++ x ∷ m) b → Seg n p a l x × Seg n p x m b
  seg_split a [] x m b s = ((s.0, s.1), s.2)
  seg_split a (y ∷ l) x m b s = let r = seg_split y l x m b s.2 in ((s.0, s.1, r.0), r.1)

  pub seg_join : (a : ℕ) (l : List ℕ) (x : ℕ) (m : List ℕ) (b : ℕ) → Seg n p a l x → Seg n p x m b → Seg n p a (l ++ x ∷ m) b
  seg_join a [] x m b s t = (s.0, s.1, t)
  seg_join a (y ∷ l) x m b s t = (s.0, s.1, seg_join y l x m b s.2 t)

  -- the one before the end is on the way
  pub seg_last : (a : ℕ) (l : List ℕ) (b : ℕ) → Seg n p a l b → 1 ≤ times (p b) (a ∷ l)
  seg_last a [] b s = omega (arith, alike_same (p b) a s.1)
  seg_last a (x ∷ l) b s = let r = seg_last x l b s.2 in omega arith

  -- the one after the start is on the way
  pub seg_first : (a : ℕ) (l : List ℕ) (b : ℕ) → Seg n p a l b → 1 ≤ times (n a) l + alike (n a) b
  seg_first a [] b s = omega (arith, alike_same (n a) b s.0)
  seg_first a (x ∷ l) b s = omega (arith, alike_same (n a) x s.0)

-- next and prev become n' and p'
module _ (n p n' p' : ℕ → ℕ) where
  -- a segment stands where the words on it stand
  pub seg_frame : (a : ℕ) (l : List ℕ) (b : ℕ) → Seg n p a l b
      → ((k : ℕ) → 1 ≤ times k (a ∷ l) → n' k ≡ n k)
      → ((k : ℕ) → 1 ≤ times k l + alike k b → p' k ≡ p k)
      → Seg n' p' a l b
  seg_frame a [] b s nexts prevs = (nexts a (times_head a []) ∙ s.0, prevs b (omega (arith, alike_same b b refl)) ∙ s.1)
  seg_frame a (x ∷ l) b s nexts prevs = (
    nexts a (times_head a (x ∷ l)) ∙ s.0,
    prevs x (omega (arith, times_head x l)) ∙ s.1,
    seg_frame x l b s.2 (λ k h. nexts k (omega arith)) (λ k h. prevs k (omega arith)),
  )

  -- the segment's end moved from b to c
  pub seg_end : (a : ℕ) (l : List ℕ) (b c : ℕ) → Seg n p a l b
      → ((k : ℕ) → times k (a ∷ l) ≤ 1)
      → n' (p b) ≡ c → p' c ≡ p b
      → ((k : ℕ) → 1 ≤ times k (a ∷ l) → k ≢ p b → n' k ≡ n k)
      → ((k : ℕ) → 1 ≤ times k l → p' k ≡ p k)
      → Seg n' p' a l c
  seg_end a [] b c s once next prev nexts prevs = (ap n' (sym s.1) ∙ next, prev ∙ s.1)
  seg_end a (x ∷ l) b c s once next prev nexts prevs =
      let not_last : a ≢ p b = λ e. omega (arith, once (p b), seg_last n p x l b s.2, alike_same (p b) a (sym e)) in (
        nexts a (times_head a (x ∷ l)) not_last ∙ s.0,
        prevs x (times_head x l) ∙ s.1,
        seg_end x l b c s.2 (λ k. omega (arith, once k)) next prev (λ k h. nexts k (omega arith)) (λ k h. prevs k (omega arith)),
      )

  -- the segment's start moved from a to c
  pub seg_start : (a : ℕ) (l : List ℕ) (b c : ℕ) → Seg n p a l b
      → ((k : ℕ) → times k l + alike k b ≤ 1)
      → p' (n a) ≡ c → n' c ≡ n a
      → ((k : ℕ) → 1 ≤ times k l → n' k ≡ n k)
      → ((k : ℕ) → 1 ≤ times k l + alike k b → k ≢ n a → p' k ≡ p k)
      → Seg n' p' c l b
  seg_start a [] b c s once prev next nexts prevs = (next ∙ s.0, ap p' (sym s.0) ∙ prev)
  seg_start a (x ∷ l) b c s once prev next nexts prevs = (
    next ∙ s.0,
    ap p' (sym s.0) ∙ prev,
    seg_frame x l b s.2 nexts (λ k h. prevs k (omega arith) (λ e. omega (arith, once k, alike_same k x (e ∙ s.0)))),
  )

  -- r taken out of the way from a to b
  pub seg_cut : (a : ℕ) (l : List ℕ) (r : ℕ) (m : List ℕ) (b : ℕ) → Seg n p a l r → Seg n p r m b
      → ((k : ℕ) → times k (a ∷ l) + times k m ≤ 1)
      → ((k : ℕ) → times k l + (times k m + alike k b) ≤ 1)
      → n' (p r) ≡ n r → p' (n r) ≡ p r
      → ((k : ℕ) → 1 ≤ times k (a ∷ l) + times k m → k ≢ p r → n' k ≡ n k)
      → ((k : ℕ) → 1 ≤ times k l + (times k m + alike k b) → k ≢ n r → p' k ≡ p k)
      → Seg n' p' a (l ++ m) b
  seg_cut a [] r m b s t once once' next prev nexts prevs =
      seg_start r m b a t (λ k. omega (arith, once' k)) (prev ∙ s.1) (ap n' (sym s.1) ∙ next)
      (λ k h. nexts k (omega arith) (λ q. omega (arith, once k, alike_same k a (q ∙ s.1))))
      (λ k h. prevs k (omega arith))
  seg_cut a (x ∷ l) r m b s t once once' next prev nexts prevs =
      let not_last : a ≢ p r = λ q. omega (arith, once (p r), seg_last n p x l r s.2, alike_same (p r) a (sym q)) in
      let not_first : x ≢ n r = λ q. omega (arith, once' (n r), seg_first n p r m b t, alike_same (n r) x (sym q)) in (
        nexts a (omega (arith, times_head a (x ∷ l))) not_last ∙ s.0,
        prevs x (omega (arith, times_head x l)) not_first ∙ s.1,
        seg_cut x l r m b s.2 t (λ k. omega (arith, once k)) (λ k. omega (arith, once' k)) next prev
            (λ k h. nexts k (omega arith)) (λ k h. prevs k (omega arith)),
      )

-- two ways whose next words agree on the slots of the first, and which meet their end only there, are one
pub seg_agree : (n p n' p' : ℕ → ℕ) (a : ℕ) (l m : List ℕ) (b : ℕ) → Seg n p a l b → Seg n' p' a m b
    → times b l ≡ 0 → times b m ≡ 0 → ((k : ℕ) → 1 ≤ times k (a ∷ l) → n k ≡ n' k) → l ≡ m
seg_agree n p n' p' a [] [] b s t h k nexts = refl
seg_agree n p n' p' a [] (y ∷ m) b s t h k nexts =
    absurd (omega (arith, alike_same b y (sym s.0 ∙ nexts a (times_head a []) ∙ t.0)))
seg_agree n p n' p' a (x ∷ l) [] b s t h k nexts =
    absurd (omega (arith, alike_same b x (sym t.0 ∙ sym (nexts a (times_head a (x ∷ l))) ∙ s.0)))
seg_agree n p n' p' a (x ∷ l) (y ∷ m) b s t h k nexts =
    let q : y ≡ x = sym t.0 ∙ sym (nexts a (times_head a (x ∷ l))) ∙ s.0 in
    let from-x : Seg n' p' x m b = subst (λ (z : ℕ). Seg n' p' z m b) q t.2 in
    let rest = seg_agree n p n' p' x l m b s.2 from-x (omega arith) (omega arith) (λ i g. nexts i (omega arith)) in
    cc

-- by the same words there is one way only
pub seg_unique : (n p : ℕ → ℕ) (a : ℕ) (l m : List ℕ) (b : ℕ) → Seg n p a l b → Seg n p a m b
    → times b l ≡ 0 → times b m ≡ 0 → l ≡ m
seg_unique n p a l m b s t h k = seg_agree n p n p a l m b s t h k (λ i q. refl)
