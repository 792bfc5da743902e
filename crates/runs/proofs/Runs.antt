-- Runs, over versions alone: no two overlap, and every vacant slot is in one. Assumes nothing.
use mathlib.Core.Path.{◌≡◌, refl, ap}
use Prim.Native.Nat.{ℕ, zero, suc, ◌+◌, ◌-◌, ◌≤◌, ◌<◌, ◌%◌}
use native.Mathlib.Decide.{ℕ_discrete, dec_le, dec_lt}
use native.Mathlib.Omega.{arith}
use Rattle.rules.specs.Runs.{Front, Run}

-- a slot under two names has one parity
pub par : (v : ℕ → ℕ) (a b : ℕ) → a ≡ b → v a % 2 ≡ v b % 2
par v a b e = ap (λ (x : ℕ). v x % 2) e

-- a run from its parts
pub make_run : {v : ℕ → ℕ} {u f b : ℕ} → ((j : ℕ) → suc j ≡ f → v j % 2 ≡ 1) → f ≤ b
    → ((k : ℕ) → f ≤ k → k ≤ b → v k % 2 ≡ 0) → b < u → (suc b < u → v (suc b) % 2 ≡ 1) → Run v u f b
make_run {f = f} starts ordered vacant below stops =
    record {
      front = record { below = omega arith; vacant = vacant f (omega arith) ordered; starts = starts };
      ordered = ordered;
      below = below;
      vacant = vacant;
      stops = stops;
    }

-- versions that agree at a slot and at the one before it have the same front there
pub front_kept : {v v' : ℕ → ℕ} {u u' k : ℕ} → k < u' → v k ≡ v' k → ((m : ℕ) → suc m ≡ k → v m ≡ v' m)
    → Front v u k → Front v' u' k
front_kept below here before f =
    record { below = below; vacant = omega (arith, here, f.vacant); starts = λ m e. omega (arith, before m e, f.starts m e) }

-- and the same run, where they agree from the slot before its front to the one after its back
pub run_kept : {v v' : ℕ → ℕ} {u f b : ℕ} → ((m : ℕ) → suc m ≡ f → v m ≡ v' m) → ((k : ℕ) → f ≤ k → k ≤ b → v k ≡ v' k)
    → (suc b < u → v (suc b) ≡ v' (suc b)) → Run v u f b → Run v' u f b
run_kept before within after r =
    make_run (λ m e. omega (arith, before m e, r.front.starts m e)) r.ordered
    (λ k p q. omega (arith, within k p q, r.vacant k p q)) r.below (λ h. omega (arith, after h, r.stops h))

-- two runs that overlap are one
pub run_same : (v : ℕ → ℕ) (u f b f' b' : ℕ) → Run v u f b → Run v u f' b' → f ≤ b' → f' ≤ b → (f ≡ f') × (b ≡ b')
run_same v u f b f' b' r s h h' = (
  omega (arith, front-≤ f b f' b' r s h, front-≤ f' b' f b s r h'),
  omega (arith, back-≤ f b f' b' r s h, back-≤ f' b' f b s r h'),
)
  where
    -- neither begins later than the other, and neither ends later
    front-≤ : (f b f' b' : ℕ) → Run v u f b → Run v u f' b' → f ≤ b' → f ≤ f'
    front-≤ zero b f' b' r s h = omega arith
    front-≤ (suc m) b f' b' r s h =
        let not-later : f' ≤ m → ⊥ = λ q. omega (arith, r.front.starts m refl, s.vacant m q (omega arith)) in
        omega arith

    back-≤ : (f b f' b' : ℕ) → Run v u f b → Run v u f' b' → f ≤ b' → b ≤ b'
    back-≤ f b f' b' r s h =
        let not-later : b' < b → ⊥ = λ q. omega (arith, s.stops (omega (arith, r.below)), r.vacant (suc b') (omega arith) q) in
        omega arith

-- from the vacant slot k down to the front f of its run
pub record Down (v : ℕ → ℕ) (k f : ℕ) : Type 0 where
  pub ordered : f ≤ k
  pub starts : (j : ℕ) → suc j ≡ f → v j % 2 ≡ 1
  pub vacant : (i : ℕ) → f ≤ i → i ≤ k → v i % 2 ≡ 0

-- from the vacant slot k up to the back b of its run
pub record Up (v : ℕ → ℕ) (u k b : ℕ) : Type 0 where
  pub ordered : k ≤ b
  pub vacant : (i : ℕ) → k ≤ i → i ≤ b → v i % 2 ≡ 0
  pub below : b < u
  pub stops : suc b < u → v (suc b) % 2 ≡ 1

-- the two together are the run
pub meet : {v : ℕ → ℕ} {u f k b : ℕ} → Down v k f → Up v u k b → Run v u f b
meet {v} {f = f} {k} {b} lower upper =
    make_run lower.starts (omega (arith, lower.ordered, upper.ordered))
    (λ i p q. within i p q (dec_le i k)) upper.below upper.stops
  where
    within : (i : ℕ) → f ≤ i → i ≤ b → Dec (i ≤ k) → v i % 2 ≡ 0
    within i p q (yes h) = lower.vacant i p h
    within i p q (no h) = upper.vacant i (omega arith) q

-- a vacant slot k that is itself the front
pub down_here : {v : ℕ → ℕ} {k : ℕ} → v k % 2 ≡ 0 → ((j : ℕ) → suc j ≡ k → v j % 2 ≡ 1) → Down v k k
down_here {v} {k} even starts =
    record { ordered = omega arith; starts = starts; vacant = λ i p q. omega (arith, par v i k (omega arith)) }

-- one vacant slot more above
pub down_more : {v : ℕ → ℕ} {k f : ℕ} → Down v k f → v (suc k) % 2 ≡ 0 → Down v (suc k) f
down_more {v} {k} {f} d even =
    record { ordered = omega (arith, d.ordered); starts = d.starts; vacant = λ i p q. within i p q (ℕ_discrete i (suc k)) }
  where
    within : (i : ℕ) → f ≤ i → i ≤ suc k → Dec (i ≡ suc k) → v i % 2 ≡ 0
    within i p q (yes e) = omega (arith, par v i (suc k) e)
    within i p q (no n) = d.vacant i p (omega arith)

-- a vacant slot k that is itself the back
pub up_here : {v : ℕ → ℕ} {u k : ℕ} → k < u → v k % 2 ≡ 0 → (suc k < u → v (suc k) % 2 ≡ 1) → Up v u k k
up_here {v} {k = k} below even stops =
    record { ordered = omega arith; vacant = λ i p q. omega (arith, par v i k (omega arith)); below = below; stops = stops }

-- one vacant slot more below
pub up_more : {v : ℕ → ℕ} {u k b : ℕ} → Up v u (suc k) b → v k % 2 ≡ 0 → Up v u k b
up_more {v} {k = k} {b} x even =
    record { ordered = omega (arith, x.ordered); vacant = λ i p q. within i p q (ℕ_discrete i k); below = x.below; stops = x.stops }
  where
    within : (i : ℕ) → k ≤ i → i ≤ b → Dec (i ≡ k) → v i % 2 ≡ 0
    within i p q (yes e) = omega (arith, par v i k e)
    within i p q (no n) = x.vacant i (omega arith) q

-- from every vacant slot there is a way down to the front of its run
down : (v : ℕ → ℕ) (k : ℕ) → v k % 2 ≡ 0 → (f : ℕ) × Down v k f
down v zero even = (0, down_here even (λ j e. absurd (omega arith)))
down v (suc k) even = go (ℕ_discrete (v k % 2) 0) (down v k)
  where
    go : Dec (v k % 2 ≡ 0) → (v k % 2 ≡ 0 → (f : ℕ) × Down v k f) → (f : ℕ) × Down v (suc k) f
    go (yes e) rest = let d = rest e in (d.0, down_more d.1 even)
    go (no n) rest = (suc k, down_here even (λ j e. omega (arith, par v j k (omega arith))))

-- and a way up to its back, within the d slots that are left below u
up : (v : ℕ → ℕ) (u d k : ℕ) → k + d ≡ u → k < u → v k % 2 ≡ 0 → (b : ℕ) × Up v u k b
up v u zero k e low even = absurd (omega arith)
up v u (suc d) k e low even = go (dec_lt (suc k) u) (ℕ_discrete (v (suc k) % 2) 0) (up v u d (suc k) (omega arith))
  where
    go : Dec (suc k < u) → Dec (v (suc k) % 2 ≡ 0) → (suc k < u → v (suc k) % 2 ≡ 0 → (b : ℕ) × Up v u (suc k) b)
        → (b : ℕ) × Up v u k b
    go (no n) _ rest = (k, up_here low even (λ h. absurd (n h)))
    go (yes h) (no n) rest = (k, up_here low even (λ _. omega arith))
    go (yes h) (yes q) rest = let x = rest h q in (x.0, up_more x.1 even)

-- every front begins a run
pub front_run : (v : ℕ → ℕ) (u f : ℕ) → Front v u f → (b : ℕ) × Run v u f b
front_run v u f h =
    let x = up v u (u - f) f (omega (arith, h.below)) h.below h.vacant in
    (x.0, meet (down_here h.vacant h.starts) x.1)

-- every vacant slot with none after it ends a run
pub back_run : (v : ℕ → ℕ) (u b : ℕ) → b < u → v b % 2 ≡ 0 → (suc b < u → v (suc b) % 2 ≡ 1) → (f : ℕ) × Run v u f b
back_run v u b low even stops =
    let d = down v b even in
    (d.0, meet d.1 (up_here low even stops))

-- every vacant slot is in a run
pub in_a_run : (v : ℕ → ℕ) (u k : ℕ) → k < u → v k % 2 ≡ 0 → (f : ℕ) × (b : ℕ) × Run v u f b × (f ≤ k) × (k ≤ b)
in_a_run v u k low even =
    let d = down v k even in
    let x = up v u (u - k) k (omega arith) low even in
    (d.0, x.0, meet d.1 x.1, d.1.ordered, x.1.ordered)

-- the slot after a run, where it is in use, is occupied
pub after_run : (v : ℕ → ℕ) (u f b : ℕ) → Run v u f b → b + 1 < u → v (b + 1) % 2 ≡ 1
after_run v u f b r h = omega (arith, r.stops (omega arith), par v (b + 1) (suc b) (omega arith))
