-- In a linked table every link that a call follows leads where it should. Assumes nothing.
use mathlib.Core.Path.{◌≡◌, refl, sym, ap, ◌∙◌, subst}
use mathlib.Core.Logic.{◌≢◌}
use mathlib.Core.List.{List, [], ◌∷◌}
use Prim.Native.Nat.{ℕ, suc, ◌≤◌, ◌<◌, ◌%◌}
use native.Mathlib.Decide.{ℕ_discrete}
use native.Mathlib.Omega.{arith}
use Rattle.rules.specs.Choice.{times}
use Rattle.rules.specs.Runs.{Front, odd_count}
use Rattle.runs.proofs.Points.{alike_same, alike_other}
use Rattle.runs.proofs.Times.{times_head, times_append, times_split}
use Rattle.runs.proofs.Segments.{Seg, seg_split, seg_last, seg_first}
use Rattle.runs.proofs.Runs.{par}
use Rattle.runs.proofs.Counts.{odd_but_two}
use Rattle.runs.proofs.Linked.{Linked, once, run_from, run_to, first_run}

-- below used and vacant
abbrev pub IsVacant : (ℕ → ℕ) → ℕ → ℕ → Type 0
IsVacant v u k = (k < u) × (v k % 2 ≡ 0)

module _ (v n p e : ℕ → ℕ) (u : ℕ) (l : List ℕ) (L : Linked v n p e u l) where
  -- every front is vacant
  front_vacant : (k : ℕ) → Front v u k → IsVacant v u k
  front_vacant k f = (f.below, f.vacant)

  -- next and prev of a front are in the chain
  neighbours_listed : (k : ℕ) → Front v u k → Dec (k ≡ 0) → (1 ≤ times (n k) (0 ∷ l)) × (1 ≤ times (p k) (0 ∷ l))
  neighbours_listed k f (yes t) =
      subst (λ (x : ℕ). (1 ≤ times (n x) (0 ∷ l)) × (1 ≤ times (p x) (0 ∷ l))) (sym t)
      (omega (arith, seg_first n p 0 l 0 L.seg), seg_last n p 0 l 0 L.seg)
  neighbours_listed k f (no t) =
      let c = times_split k l (omega (arith, L.fronts.every k f, alike_other k 0 t)) in
      let s = seg_split n p 0 c.0 k c.1 0 (subst (λ (x : List ℕ). Seg n p 0 x 0) c.2 L.seg) in (
        omega (arith, seg_first n p k c.1 0 s.1, ap (times (n k)) c.2, times_append (n k) c.0 (k ∷ c.1)),
        omega (arith, seg_last n p 0 c.0 k s.0, ap (times (p k)) c.2, times_append (p k) c.0 (k ∷ c.1)),
      )

  -- next and prev of a front are fronts
  next_front : (k : ℕ) → Front v u k → Front v u (n k)
  next_front k f = L.fronts.only (n k) (neighbours_listed k f (ℕ_discrete k 0)).0

  prev_front : (k : ℕ) → Front v u k → Front v u (p k)
  prev_front k f = L.fronts.only (p k) (neighbours_listed k f (ℕ_discrete k 0)).1

  -- slot 0 is a front
  zero_front : Front v u 0
  zero_front = L.fronts.only 0 (times_head 0 l)

  -- insert's h, the first front: vacant
  pub insert_h : IsVacant v u (n 0)
  insert_h = front_vacant (n 0) (next_front 0 zero_front)

  -- its b, the back of that run: vacant, not before h, and its other_end is h
  pub insert_b : IsVacant v u (e (n 0)) × (n 0 ≤ e (n 0)) × (e (e (n 0)) ≡ n 0)
  insert_b =
      let r = first_run v n p e u l L in
      ((r.below, r.vacant (e (n 0)) r.ordered (omega arith)), r.ordered, (L.ends (n 0) (e (n 0)) r).1)

  -- the slot before b, where b is not h: vacant
  pub insert_before : (d : ℕ) → suc d ≡ e (n 0) → n 0 ≢ e (n 0) → v d % 2 ≡ 0
  insert_before d q m = let r = first_run v n p e u l L in r.vacant d (omega (arith, r.ordered)) (omega arith)

  -- its n, the second front: vacant
  pub insert_n : IsVacant v u (n (n 0))
  insert_n = front_vacant (n (n 0)) (next_front (n 0) (next_front 0 zero_front))

  -- the second front is not the first again, where the chain is not empty
  pub insert_n_not_h : n 0 ≢ 0 → n (n 0) ≢ n 0
  insert_n_not_h some = go l L.seg (once L)
    where
      go : (l : List ℕ) → Seg n p 0 l 0 → ((k : ℕ) → times k (0 ∷ l) ≤ 1) → n (n 0) ≢ n 0
      go [] s o t = some s.0
      go (x ∷ []) s o t = some (sym t ∙ ap n s.0 ∙ s.2.0)
      go (x ∷ y ∷ m) s o t = omega (arith, o y, alike_same y y refl, alike_same y x (sym (ap n s.0 ∙ s.2.0) ∙ t ∙ s.0))

  -- where b is not slot 0 at least two slots are vacant
  pub insert_room : e (n 0) ≢ 0 → suc (suc (odd_count v u)) ≤ u
  insert_room some = odd_but_two v u 0 (e (n 0)) (omega arith) insert_b.0.0 L.fronts.zero_even insert_b.0.1

  -- remove's t, the last front: vacant
  pub remove_t : IsVacant v u (p 0)
  remove_t = front_vacant (p 0) (prev_front 0 zero_front)

  -- slot i = j + 1 is occupied, the slot after it is r
  module _ (j : ℕ) (low : suc j < u) (odd : v (suc j) % 2 ≡ 1) where
    abbrev r : ℕ
    r = suc (suc j)

    -- where r is vacant: its next, prev and other_end are vacant, and other_end is not before it
    pub remove_right_links : r < u → v r % 2 ≡ 0 → IsVacant v u (n r) × IsVacant v u (p r) × IsVacant v u (e r) × (r ≤ e r)
    remove_right_links low-r right =
        let f : Front v u r = record { below = low-r; vacant = right; starts = λ m t. omega (arith, par v m (suc j) (omega arith)) } in
        let run = run_from L r f in (
          front_vacant (n r) (next_front r f),
          front_vacant (p r) (prev_front r f),
          (run.below, run.vacant (e r) run.ordered (omega arith)),
          run.ordered,
        )

    -- where j is vacant: its other_end is vacant and not after it
    pub remove_left_link : v j % 2 ≡ 0 → IsVacant v u (e j) × (e j ≤ j)
    remove_left_link left =
        let run = run_to L j (omega arith) left (λ _. odd) in
        ((run.front.below, run.front.vacant), run.ordered)
