-- Relinking links a table from any words with slot 0 even: the versions and the length stay, and the chain is the runs' fronts in
-- rising order. Assumes nothing.
use mathlib.Core.Path.{◌≡◌, refl, ◌∙◌}
use mathlib.Core.List.{List}
use mathlib.Core.Bool.{Bool, true, false}
use Prim.Native.Nat.{ℕ, zero, suc, ◌*◌, ◌≤◌, ◌<◌, ◌%◌}
use native.Mathlib.Decide.{ℕ_discrete}
use native.Mathlib.Omega.{arith}
use lib.ListN.{length}
use Rattle.rules.specs.Choice.{pick}
use Rattle.rules.specs.Words.{link_words, version_at, next_at, prev_at, other_end_at}
use Rattle.rules.specs.Runs.{Run, is_front, is_back}
use Rattle.rules.specs.Rebuild.{unlinked, Chain, chain_run, chain_slot, chain_slots, closed, relinked}
use Rattle.rules.proofs.Choice.{by_pick}
use Rattle.runs.specs.Rising.{rising}
use Rattle.runs.proofs.Points.{put_same, put_other}
use Rattle.runs.proofs.Words.{holds, holds_below}
use Rattle.runs.proofs.Readers.{words}
use Rattle.runs.proofs.RunTests.{back_vacant, back_is}
use Rattle.runs.proofs.Chained.{Chained, pass, join, last_in_use, none_yet, all_linked}
use Rattle.runs.proofs.Sound.{LinkedTable}

-- one length, and one version in every slot
abbrev Same : ℕ → List ℕ → List ℕ → Type 0
Same used l l' = (length l ≡ length l') × (version_at l used ≡ version_at l' used)

unlinked_same : (used : ℕ) (l : List ℕ) (m : ℕ) → Same used (unlinked m l) l
unfolding unlinked
unlinked_same used l zero = (refl, refl)
unlinked_same used l (suc m) = simp words (unlinked_same used l m)

slot_same : (used n k : ℕ) (c : Chain) → Same used (chain_slot n k c).links c.links
unfolding chain_slot chain_run
slot_same used n k c =
    by_pick (λ (l : List ℕ). Same used l c.links) (is_back (version_at c.links n) n k) _ _ (λ _. simp words (refl, refl)) (λ _. (refl, refl))

slots_same : (used n : ℕ) (c : Chain) (k : ℕ) → Same used (chain_slots n k c).links c.links
unfolding chain_slots
slots_same used n c zero = (refl, refl)
slots_same used n c (suc k) =
    let a = slot_same used n k (chain_slots n k c) in
    let b = slots_same used n c k in
    (a.0 ∙ b.0, a.1 ∙ b.1)

-- next(0) before the runs are chained
unlinked_zero : (l : List ℕ) (n : ℕ) → n * link_words ≤ length l → (m : ℕ) → 1 ≤ m → m ≤ n → next_at (unlinked m l) n 0 ≡ 0
unfolding unlinked
unlinked_zero l n fits zero p h = absurd (omega arith)
unlinked_zero l n fits (suc m) p h = go (ℕ_discrete 0 m) (unlinked_zero l n fits m)
  where
    held : holds (unlinked m l) n m ≡ true
    held = holds_below (unlinked m l) n m (omega (arith, (unlinked_same n l m).0)) h

    go : Dec (0 ≡ m) → (1 ≤ m → m ≤ n → next_at (unlinked m l) n 0 ≡ 0) → next_at (unlinked (suc m) l) n 0 ≡ 0
    go (yes e) ih = simp (words, held) (put_same (next_at (unlinked m l) n) m 0 0 e)
    go (no t) ih = simp (words, held) (put_other (next_at (unlinked m l) n) m 0 0 t ∙ ih (omega arith) (omega arith))

-- the runs that end below slot k are chained
abbrev ChainedTo : (ℕ → ℕ) → ℕ → ℕ → Chain → Type 0
ChainedTo v n k c = Chained v (next_at c.links n) (prev_at c.links n) (other_end_at c.links n) n k c.front c.last

-- the front in mind at slot k
abbrev front_at : (ℕ → ℕ) → ℕ → ℕ → Chain → ℕ
front_at v n k c = pick (is_front v n k) k c.front

-- one slot more: no back, or the back of a run
module _ (v : ℕ → ℕ) (n k : ℕ) (low : k < n) (c : Chain) (same : version_at c.links n ≡ v)
    (fits : n * link_words ≤ length c.links) (C : ChainedTo v n k c) where
  passed : is_back v n k ≡ false → chain_slot n k c ≡ record { links = c.links; front = front_at v n k c; last = c.last }
  unfolding chain_slot
  passed e = simp (same, e)

  joined : is_back v n k ≡ true →
      chain_slot n k c ≡ record { links = chain_run c.links c.last (front_at v n k c) k; front = front_at v n k c; last = front_at v n k c }
  unfolding chain_slot
  joined e = simp (same, e)

  run_here : is_back v n k ≡ true → Run v n (front_at v n k c) k
  run_here e =
      let r = back_is v n k e in
      rw (C.here (back_vacant v n r)) r

  slot : ChainedTo v n (suc k) (chain_slot n k c)
  unfolding chain_run
  slot = go (is_back v n k) refl
    where
      go : (t : Bool) → is_back v n k ≡ t → ChainedTo v n (suc k) (chain_slot n k c)
      go false e = rw (passed e) (pass v _ _ _ n k c.front c.last C e)
      go true e =
          let r = run_here e in
          let p = holds_below c.links n c.last fits (last_in_use v _ _ _ n k c.front c.last C (omega arith)) in
          let f = holds_below c.links n (front_at v n k c) fits r.front.below in
          let b = holds_below c.links n k fits low in
          rw (joined e) (simp (words, p, f, b) (join v _ _ _ n k c.front c.last C (front_at v n k c) r))

slots : (v : ℕ → ℕ) (n : ℕ) (c : Chain) → version_at c.links n ≡ v → n * link_words ≤ length c.links → ChainedTo v n 0 c →
    (k : ℕ) → k ≤ n → ChainedTo v n k (chain_slots n k c)
unfolding chain_slots
slots v n c same fits C zero h = C
slots v n c same fits C (suc k) h =
    let s = slots_same n n c k in
    slot v n k h (chain_slots n k c) (s.1 ∙ same) (omega (arith, s.0)) (slots v n c same fits C k (omega arith))

closed_linked : (v : ℕ → ℕ) (n : ℕ) (c : Chain) → 1 ≤ n → v 0 % 2 ≡ 0 → version_at c.links n ≡ v → n * link_words ≤ length c.links →
    ChainedTo v n n c → LinkedTable (closed c) n (rising v n)
closed_linked v n c some even same fits C =
    simp (words, holds_below c.links n 0 fits some, same) (all_linked v _ _ _ n c.front c.last some even C)

-- relinking
abbrev start : List ℕ → ℕ → Chain
start l n = record { links = unlinked n l; front = 0; last = 0 }

module _ (l : List ℕ) (n : ℕ) where
  relinked_same : (used : ℕ) → Same used (relinked l n).links l
  unfolding relinked
  relinked_same used =
      let a = slots_same used n (start l n) n in
      let b = unlinked_same used l n in
      simp words (a.0 ∙ b.0, a.1 ∙ b.1)

  pub relinked_length : length (relinked l n).links ≡ length l
  relinked_length = (relinked_same n).0

  pub relinked_versions : (used : ℕ) → version_at (relinked l n).links used ≡ version_at l used
  relinked_versions used = (relinked_same used).1

  module _ (some : 1 ≤ n) (fits : n * link_words ≤ length l) (even : version_at l n 0 % 2 ≡ 0) where
    pub relinked_linked : LinkedTable (relinked l n).links n (rising (version_at l n) n)
    unfolding relinked
    relinked_linked =
        let u = unlinked_same n l n in
        let s = slots_same n n (start l n) n in
        closed_linked (version_at l n) n (chain_slots n n (start l n)) some even (s.1 ∙ u.1) (omega (arith, s.0, u.0))
        (slots (version_at l n) n (start l n) u.1 (omega (arith, u.0))
        (none_yet (version_at l n) _ _ _ n (unlinked_zero l n fits n some (omega arith))) n (omega arith))
