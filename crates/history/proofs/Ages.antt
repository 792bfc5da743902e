-- The version of a slot so many removals later, whatever else happened; and after how many it comes round. Assumes nothing.
use mathlib.Core.Path.{◌≡◌, refl, sym, ap, ◌∙◌, subst}
use mathlib.Core.Logic.{◌≢◌}
use mathlib.Core.List.{List, [], ◌∷◌}
use Prim.Native.Nat.{ℕ, zero, suc, ◌+◌, ◌*◌, ◌/◌, ◌<◌, ◌%◌, ◌^◌}
use native.Mathlib.Decide.{ℕ_discrete}
use native.Mathlib.Nat.{zero-add, add-zero}
use native.Mathlib.Omega.{arith}
use Rattle.rules.specs.Words.{with_bit, rise}
use Rattle.rules.specs.declared.Key.{Key}
use Rattle.runs.specs.Points.{put}
use Rattle.runs.specs.Machine.{Machine}
use Rattle.runs.proofs.Points.{alike_same, alike_other, put_same, put_other}
use Rattle.history.specs.Events.{Event, handed, removed, wrote, sees, seen}
use Rattle.history.specs.Versions.{refilled, refilled_times, round}
use Rattle.history.proofs.Live.{Live}
use Rattle.history.proofs.Paths.{Hands, Happens, Path}

-- the version x of a slot that had the version w, n removals later: with its lowest bit set it is w removed and filled again n times
abbrev pub Age : ℕ → ℕ → ℕ → Type 0
Age w n x = with_bit x ≡ refilled_times n w

-- a slot sees the removal of its own key, and of no other
its_own : (i : ℕ) (k : Key) → i ≡ k.index → sees i (removed k) ≡ 1
its_own i k e = alike_same i k.index e

no_other : (i : ℕ) (k : Key) → i ≢ k.index → sees i (removed k) ≡ 0
no_other i k n = alike_other i k.index n

module _ (w i : ℕ) where
  -- slot j gets the version y, and slot i sees s removals
  put_ages : (s n : ℕ) (v : ℕ → ℕ) (j y : ℕ) → (i ≡ j → Age w n (v j) → Age w (s + n) y) → (i ≢ j → s ≡ 0) → Age w n (v i) → Age w (s + n) (put v j y i)
  put_ages s n v j y h z a = go (ℕ_discrete i j)
    where
      go : Dec (i ≡ j) → Age w (s + n) (put v j y i)
      go (yes e) = rw (put_same v j y i e) (h e (subst (λ (t : ℕ). Age w n (v t)) e a))
      go (no d) = rw (put_other v j y i d, z d, zero-add n) a

  event_ages : (n : ℕ) (m : Machine) (e : Event) (m' : Machine) → Happens m e m' → i < m.used → Age w n (m.versions i) →
      i < m'.used × Age w (sees i e + n) (m'.versions i)
  unfolding refilled_times
  event_ages n m (handed k row) m' h l a =
      (omega (arith, h.used), rw h.versions (put_ages 0 n m.versions k.index k.version new (λ _. refl) a))
    where
      new : i ≡ k.index → Age w n (m.versions k.index) → Age w (0 + n) k.version
      new e b = rw (zero-add n) (let v = h.version (omega arith) in omega (arith, b, v))
  event_ages n m (removed k) m' h l a =
      (omega (arith, h.used), rw h.versions (put_ages (sees i (removed k)) n m.versions k.index _ gone (no_other i k) a))
    where
      gone : i ≡ k.index → Age w n (m.versions k.index) → Age w (sees i (removed k) + n) (rise (m.versions k.index))
      gone e b =
          let odd : m.versions k.index ≡ with_bit (m.versions k.index) = omega (arith, h.live.same, h.live.odd) in
          let more : sees i (removed k) + n ≡ suc n = omega (arith, its_own i k e) in
          rw more (ap refilled (odd ∙ b))
  event_ages n m (wrote k row) m' h l a = (omega (arith, h.used), rw (h.versions, zero-add n) a)

  path_ages : (n : ℕ) (m : Machine) (es : List Event) (m' : Machine) → Path m es m' → i < m.used → Age w n (m.versions i) →
      i < m'.used × Age w (seen i es + n) (m'.versions i)
  path_ages n m [] m' p l a = rw (sym p, zero-add n) (l, a)
  path_ages n m (e ∷ es) m' p l a =
      let b = event_ages n m e p.0 p.1 l a in
      let c = path_ages (sees i e + n) p.0 es m' p.2 b.0 b.1 in
      let s : seen i (e ∷ es) + n ≡ seen i es + (sees i e + n) = omega arith in
      (c.0, rw s c.1)

-- the key k is removed, and other events follow
module _ (m : Machine) (k : Key) (es : List Event) (m' : Machine) (p : Path m (removed k ∷ es) m') where
  aged : (k.index < m'.used) × Age k.version (seen k.index (removed k ∷ es)) (m'.versions k.index)
  unfolding refilled_times
  aged =
      let l = p.1.live in
      let c = path_ages k.version k.index 0 m (removed k ∷ es) m' p l.low (omega (arith, l.same, l.odd)) in
      (c.0, rw (sym (add-zero (seen k.index (removed k ∷ es)))) c.1)

  -- if it is live again, and if its slot is filled again: the version is its own, removed and filled again as often
  pub live_again : Live m' k → refilled_times (seen k.index (removed k ∷ es)) k.version ≡ k.version
  live_again a = omega (arith, aged.1, a.same, a.odd)

  pub filled_again : (x : Key) (row : List ℕ) (m'' : Machine) → Hands m' x row m'' → x.index ≡ k.index →
      x.version ≡ refilled_times (seen k.index (removed k ∷ es)) k.version
  filled_again x row m'' h e = h.version (omega (arith, aged.0)) ∙ ap (λ (j : ℕ). with_bit (m'.versions j)) e ∙ aged.1

  pub own_seen : 0 < seen k.index (removed k ∷ es)
  own_seen = omega (arith, its_own k.index k refl)

-- so many times removed and filled again: the version as a number; from the first time on it is a word
refilled_is : (n w : ℕ) → w % 2 ≡ 1 → w < 2 ^ 32 → refilled_times n w ≡ (w + 2 * n) % 2 ^ 32
unfolding refilled_times
refilled_is zero w o b = omega arith
refilled_is (suc n) w o b = omega (arith, refilled_is n w o b)

refilled_word : (n w : ℕ) → 0 < n → refilled_times n w < 2 ^ 32
unfolding refilled_times
refilled_word zero w p = absurd (omega arith)
refilled_word (suc n) w p = omega arith

-- fewer than a round are no whole turn of the 32 bits
no_turn : (n q : ℕ) → 0 < n → n < round → q * 2 ^ 32 ≡ 2 * n → ⊥
no_turn n zero p l e = omega arith
no_turn n (suc q) p l e = omega arith

-- so many times removed and filled again the version is what it was, and never before
pub comes_round : (v : ℕ) → v % 2 ≡ 1 → v < 2 ^ 32 → refilled_times round v ≡ v
comes_round v o w = omega (arith, refilled_is round v o w)

pub not_before : (n v : ℕ) → v % 2 ≡ 1 → 0 < n → n < round → refilled_times n v ≢ v
not_before n v o p l e =
    let w : v < 2 ^ 32 = omega (arith, refilled_word n v p) in
    no_turn n ((v + 2 * n) / 2 ^ 32) p l (omega (arith, refilled_is n v o w))
