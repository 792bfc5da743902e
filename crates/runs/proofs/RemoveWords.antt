-- The link words that a removal writes, case by case, keep a table linked and take the chain where the machine does.
-- Assumes nothing.
use mathlib.Core.Path.{◌≡◌, ap, ◌∙◌}
use mathlib.Core.List.{List, [], ◌∷◌, ◌++◌}
use mathlib.Core.Bool.{Bool, true, false}
use Prim.Native.Nat.{ℕ, suc, ◌+◌, ◌-◌, ◌*◌, ◌≤◌, ◌<◌, ◌%◌}
use native.Mathlib.Omega.{arith}
use lib.ListN.{length}
use Rattle.rules.specs.Choice.{pick, times}
use Rattle.rules.specs.Words.{link_words, version_at, next_at, prev_at, other_end_at, set_version, vacant_by, vacant_at}
use Rattle.rules.specs.Remove.{beside, set_apart, join_right, join_left, join_both, freed}
use Rattle.rules.specs.declared.steps.Beside.{Beside}
use Rattle.rules.proofs.Choice.{by_test, by_pick}
use Rattle.rules.proofs.SlotTests.{vacant_is, vacant_not}
use Rattle.runs.specs.Machine.{renamed, without, fronts_after}
use Rattle.runs.proofs.Points.{alike_other}
use Rattle.runs.proofs.Times.{times_split}
use Rattle.runs.proofs.Words.{holds, holds_below}
use Rattle.runs.proofs.Readers.{words}
use Rattle.runs.proofs.Runs.{par}
use Rattle.runs.proofs.Fronts.{fronts_once}
use Rattle.runs.proofs.ChainEdits.{renamed_at, without_at}
use Rattle.runs.proofs.Joined.{apart, join_right_odd, join_left_linked, join_both_even}
use Rattle.runs.proofs.Followed.{remove_t, remove_right_links, remove_left_link}
use Rattle.runs.proofs.Sound.{LinkedTable}

-- no link that a removal writes is a version
module _ (l : List ℕ) (u i : ℕ) (x : Beside) where
  pub freed_versions : version_at (freed l u i x) u ≡ version_at l u
  unfolding freed join_both join_left join_right set_apart
  freed_versions =
      by_pick (λ (t : List ℕ). version_at t u ≡ version_at l u) x.before _ _
      (λ _. by_pick (λ (t : List ℕ). version_at t u ≡ version_at l u) x.after _ _ (λ _. simp words) (λ _. simp words))
      (λ _. by_pick (λ (t : List ℕ). version_at t u ≡ version_at l u) x.after _ _ (λ _. simp words) (λ _. simp words))

  pub freed_length : length (freed l u i x) ≡ length l
  unfolding freed join_both join_left join_right set_apart
  freed_length =
      by_pick (λ (t : List ℕ). length t ≡ length l) x.before _ _
      (λ _. by_pick (λ (t : List ℕ). length t ≡ length l) x.after _ _ (λ _. simp words) (λ _. simp words))
      (λ _. by_pick (λ (t : List ℕ). length t ≡ length l) x.after _ _ (λ _. simp words) (λ _. simp words))

-- the slots beside slot j + 1 as the rule has them
abbrev pub near : List ℕ → ℕ → ℕ → Beside
near l u j = record { left = j; right = suc (suc j); before = vacant_at l u j; after = vacant_at l u (suc (suc j)) }

pub near_is : (l : List ℕ) (u j : ℕ) → beside l u (suc j) ≡ near l u j
near_is l u j =
    let a : suc j - 1 ≡ j = omega arith in
    let b : suc j + 1 ≡ suc (suc j) = omega arith in
    simp (a, b)

-- slot i = j + 1, under its own names
module _ (l : List ℕ) (u : ℕ) (after : List ℕ) (L : LinkedTable l u after) (fits : u * link_words ≤ length l)
    (j w : ℕ) (low : suc j < u) (odd : version_at l u (suc j) % 2 ≡ 1) (ev : w % 2 ≡ 0) where
  abbrev i : ℕ
  i = suc j

  abbrev r : ℕ
  r = suc (suc j)

  abbrev v : ℕ → ℕ
  v = version_at l u

  abbrev n : ℕ → ℕ
  n = next_at l u

  abbrev p : ℕ → ℕ
  p = prev_at l u

  abbrev e : ℕ → ℕ
  e = other_end_at l u

  has : (k : ℕ) → k < u → holds l u k ≡ true
  has k h = holds_below l u k fits h

  -- with the slot after it vacant, that slot is a front in the chain
  right_front : r < u → v r % 2 ≡ 0 → (a : List ℕ) × (b : List ℕ) × (after ≡ a ++ r ∷ b)
  right_front h q =
      times_split r after
      (omega (arith, alike_other r 0 (λ t. omega arith), L.fronts.every r (record { below = h; vacant = q; starts = λ m t. omega (arith, par v m i (omega arith)) })))

  once : (a b : List ℕ) → after ≡ a ++ r ∷ b → times r (a ++ r ∷ b) ≤ 1
  once a b q = omega (arith, fronts_once v u after L.fronts r, ap (times r) q)

  apart_linked : v j % 2 ≡ 1 → (r < u → v r % 2 ≡ 1) → LinkedTable (set_version (set_apart l u i) i w) u (after ++ i ∷ [])
  unfolding set_apart
  apart_linked lo ro =
      let t = remove_t v n p e u after L in
      simp (words, has i low, has 0 (omega arith), has (p 0) t.0) (apart v n p e u after L j w low odd ev lo ro)

  left_linked : v j % 2 ≡ 0 → (r < u → v r % 2 ≡ 1) → LinkedTable (set_version (join_left l u i j) i w) u after
  unfolding join_left
  left_linked lo ro =
      let f = remove_left_link v n p e u after L j low odd lo in
      simp (words, has i low, has (e j) f.0.0) (join_left_linked v n p e u after L j w low odd ev lo ro)

  right_linked : v j % 2 ≡ 1 → r < u → v r % 2 ≡ 0 → LinkedTable (set_version (join_right l u i r) i w) u (renamed r i after)
  unfolding join_right
  right_linked lo h q =
      let s = right_front h q in
      let f = remove_right_links v n p e u after L j low odd h q in
      simp (words, has i low, has (n r) f.0.0, has (p r) f.1.0, has (e r) f.2.0)
      (rw (ap (renamed r i) s.2 ∙ renamed_at r i s.0 s.1 (once s.0 s.1 s.2))
      (join_right_odd v n p e u after L j w low odd ev s.0 s.1 s.2 lo))

  both_linked : v j % 2 ≡ 0 → r < u → v r % 2 ≡ 0 → LinkedTable (set_version (join_both l u j r) i w) u (without r after)
  unfolding join_both
  both_linked lo h q =
      let s = right_front h q in
      let f = remove_right_links v n p e u after L j low odd h q in
      let g = remove_left_link v n p e u after L j low odd lo in
      simp (words, has i low, has (n r) f.0.0, has (p r) f.1.0, has (e r) f.2.0, has (e j) g.0.0)
      (rw (ap (without r) s.2 ∙ without_at r s.0 s.1 (once s.0 s.1 s.2))
      (join_both_even v n p e u after L j w low odd ev s.0 s.1 s.2 lo))

  -- whichever case it is
  abbrev chainAfter : List ℕ
  chainAfter = pick (vacant_by v u j) (pick (vacant_by v u r) (without r after) after) (pick (vacant_by v u r) (renamed r i after) (after ++ i ∷ []))

  right_odd : vacant_by v u r ≡ false → r < u → v r % 2 ≡ 1
  right_odd t = vacant_not v u r t

  near_linked : LinkedTable (set_version (freed l u i (near l u j)) i w) u chainAfter
  unfolding freed vacant_at
  near_linked =
      by_test (λ (b : Bool). LinkedTable
      (set_version (pick b (pick (vacant_by v u r) (join_both l u j r) (join_left l u i j)) (pick (vacant_by v u r) (join_right l u i r) (set_apart l u i))) i w) u
      (pick b (pick (vacant_by v u r) (without r after) after) (pick (vacant_by v u r) (renamed r i after) (after ++ i ∷ [])))) (vacant_by v u j)
      (λ b. let lo = (vacant_is v u j b).1 in
      by_test (λ (a : Bool). LinkedTable (set_version (pick a (join_both l u j r) (join_left l u i j)) i w) u (pick a (without r after) after)) (vacant_by v u r)
      (λ a. let ri = vacant_is v u r a in both_linked lo ri.0 ri.1)
      (λ a. left_linked lo (right_odd a)))
      (λ b. let lo = vacant_not v u j b (omega arith) in
      by_test (λ (a : Bool). LinkedTable (set_version (pick a (join_right l u i r) (set_apart l u i)) i w) u (pick a (renamed r i after) (after ++ i ∷ []))) (vacant_by v u r)
      (λ a. let ri = vacant_is v u r a in right_linked lo ri.0 ri.1)
      (λ a. apart_linked lo (right_odd a)))

  -- and the chain named as the machine names it
  chain_is : fronts_after v u after i ≡ chainAfter
  unfolding fronts_after
  chain_is =
      let a : i - 1 ≡ j = omega arith in
      let b : i + 1 ≡ r = omega arith in
      simp (a, b)

  pub freed_linked : LinkedTable (set_version (freed l u i (beside l u i)) i w) u (fronts_after v u after i)
  freed_linked = rw (near_is l u j, chain_is) near_linked
