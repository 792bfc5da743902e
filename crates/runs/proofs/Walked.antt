-- A walk of hop steps from 0 over a sound table visits exactly the live keys, in rising order, each once; it is never refused, and
-- it ends. Assumes nothing.
use mathlib.Core.Path.{◌≡◌, refl, sym, ap, ◌∙◌}
use mathlib.Core.List.{List, [], ◌∷◌}
use mathlib.Core.Bool.{Bool, true, false}
use Prim.Native.Nat.{ℕ, zero, suc, ◌+◌, ◌-◌, ◌≤◌, ◌<◌, ◌%◌}
use native.Mathlib.Decide.{ℕ_discrete, dec_le}
use native.Mathlib.Omega.{arith}
use lib.ListN.{length}
use lib.Dec.{ltb}
use borrow.Author.Tests.{eq-eqb, ne_eqb, le-leb, lt-leb, lt-ltb}
use Rattle.rules.specs.Choice.{pick, both, one_if, times}
use Rattle.rules.specs.Words.{vacant_by, occupied_by}
use Rattle.rules.specs.Values.{Values, done}
use Rattle.rules.specs.Refusals.{live_by}
use Rattle.rules.specs.Runs.{Run, past_front, odd_count}
use Rattle.rules.specs.declared.Header.{Header}
use Rattle.rules.specs.declared.Key.{Key}
use Rattle.rules.proofs.Choice.{by_test, both_if}
use Rattle.rules.proofs.SlotTests.{vacant_yes, vacant_no, occupied_yes, occupied_no, occupied_is}
use Rattle.runs.specs.Machine.{Machine, live_of, key_of, back_of}
use Rattle.runs.specs.Steps.{visit_on, hop_answer_on}
use Rattle.runs.specs.Tables.{Shows}
use Rattle.runs.specs.Walks.{Walk, ended, visiting, onward, walk, live_keys, indices, AscendingFrom, Ascending, AllLive}
use Rattle.runs.proofs.Points.{alike_same, alike_other}
use Rattle.runs.proofs.Counts.{odd_more, odd_none_yet}
use Rattle.runs.proofs.Runs.{par, after_run}
use Rattle.runs.proofs.RunTests.{is_false, front_by}
use Rattle.runs.proofs.Backs.{run_from}
use Rattle.runs.proofs.Hopped.{hop_does}

-- no slot from a up to b, b left out, is live
abbrev pub None : Machine → ℕ → ℕ → Type 0
None m a b = (i : ℕ) → a ≤ i → i < b → m.versions i % 2 ≡ 0

-- the step from cursor c visits slot q, the next live one
pub record Visits (m : Machine) (c q : ℕ) : Type 0 where
  pub ahead : c ≤ q
  pub below : q < m.used
  pub live : m.versions q % 2 ≡ 1
  pub between : None m c q
  pub answer : hop_answer_on m c ≡ visit_on m q

-- no live slot is left, and the step is done
pub record Stops (m : Machine) (c : ℕ) : Type 0 where
  pub left : None m c m.used
  pub answer : hop_answer_on m c ≡ done

-- one of the two
pub data Next (m : Machine) (c : ℕ) : Type 0 where
  visits : (q : ℕ) → Visits m c q → Next m c
  stops : Stops m c → Next m c

-- keys that rise from n + 1 rise from n; of the slots below n they have none
lower : (n : ℕ) (ks : List Key) → AscendingFrom (n + 1) ks → AscendingFrom n ks
lower n [] h = tt
lower n (k ∷ ks) h = (omega arith, h.1)

below_none : (i n : ℕ) (ks : List Key) → AscendingFrom n ks → i < n → times i (indices ks) ≡ 0
below_none i n [] h l = refl
below_none i n (k ∷ ks) h l =
    omega (arith, alike_other i k.index (λ t. omega arith), below_none i (k.index + 1) ks h.1 (omega arith))

module _ (m : Machine) where
  abbrev v : ℕ → ℕ
  v = m.versions

  abbrev u : ℕ
  u = m.used

  -- from a cursor that is not past a front the step goes to the next live slot, over a run if it is at its front
  pub hop_next : (c : ℕ) → past_front m.versions m.used c ≡ false → Next m c
  unfolding hop_answer_on
  hop_next c p = past (dec_le u c)
    where
      b : ℕ
      b = back_of v u c

      over : c < u → v c % 2 ≡ 0 → Run v u c b → Dec (b + 1 ≡ u) → Next m c
      over h e r (yes t) =
          stops
          (record {
            left = λ i a z. r.vacant i a (omega arith);
            answer = simp (lt-leb u c h, occupied_no v u c (λ _. e), p, eq-eqb (b + 1) u t);
          })
      over h e r (no n) =
          visits (b + 1)
          (record {
            ahead = omega arith;
            below = omega arith;
            live = after_run v u c b r (omega arith);
            between = λ i a z. r.vacant i a (omega arith);
            answer = simp (lt-leb u c h, occupied_no v u c (λ _. e), p, ne_eqb (b + 1) u n);
          })

      below : c < u → Dec (v c % 2 ≡ 1) → Next m c
      below h (yes o) =
          visits c
          (record {
            ahead = omega arith;
            below = h;
            live = o;
            between = λ i a z. absurd (omega arith);
            answer = simp (lt-leb u c h, occupied_yes v u c h o);
          })
      below h (no n) =
          let e : v c % 2 ≡ 0 = omega arith in
          over h e (run_from v u c (front_by v u c (vacant_yes v u c h e) p)) (ℕ_discrete (b + 1) u)

      past : Dec (u ≤ c) → Next m c
      past (yes h) = stops (record { left = λ i a z. absurd (omega arith); answer = simp (le-leb u c h) })
      past (no h) = below (omega arith) (ℕ_discrete (v c % 2) 1)

  -- the slot after a live one is not past a front, and neither is slot 0
  after_live : (q : ℕ) → v q % 2 ≡ 1 → past_front v u (q + 1) ≡ false
  unfolding past_front
  after_live q e =
      both_if (vacant_by v u (q + 1)) (both (ltb 0 (q + 1)) (vacant_by v u (q + 1 - 1))) λ _.
      both_if (ltb 0 (q + 1)) (vacant_by v u (q + 1 - 1)) λ _.
      vacant_no v u (q + 1 - 1) (λ _. par v (q + 1 - 1) q (omega arith) ∙ e)

  zero_first : past_front v u 0 ≡ false
  unfolding past_front
  zero_first = both_if (vacant_by v u 0) _ (λ _. refl)

  -- the live keys from a live slot, and from a vacant one
  live_here : (d k : ℕ) → k < u → v k % 2 ≡ 1 → live_keys m (suc d) k ≡ key_of m k ∷ live_keys m d (k + 1)
  unfolding live_keys
  live_here d k h e = simp (occupied_yes v u k h e)

  vacant_here : (d k : ℕ) → v k % 2 ≡ 0 → live_keys m (suc d) k ≡ live_keys m d (k + 1)
  unfolding live_keys
  vacant_here d k e = simp (occupied_no v u k (λ _. e))

  none_left : (d k : ℕ) → None m k u → live_keys m d k ≡ []
  unfolding live_keys
  none_left zero k n = refl
  none_left (suc d) k n = simp here (none_left d (k + 1) (λ i a z. n i (omega arith) z))
    where
      here : occupied_by v u k ≡ false
      here = is_false (occupied_by v u k) (λ t. let w = occupied_is v u k t in omega (arith, n k (omega arith) w.0))

  -- of stretches that reach used it does not matter how long they are, nor how many vacant slots they begin with
  reach : (d e k : ℕ) → u ≤ k + d → u ≤ k + e → live_keys m d k ≡ live_keys m e k
  unfolding live_keys
  reach zero e k h g = sym (none_left e k (λ i a z. absurd (omega arith)))
  reach (suc d) zero k h g = none_left (suc d) k (λ i a z. absurd (omega arith))
  reach (suc d) (suc e) k h g =
      ap (λ (ks : List Key). pick (occupied_by v u k) (key_of m k ∷ ks) ks) (reach d e (k + 1) (omega arith) (omega arith))

  skip_one : (d k : ℕ) → u ≤ k + d → v k % 2 ≡ 0 → live_keys m d k ≡ live_keys m d (k + 1)
  unfolding live_keys
  skip_one zero k h e = refl
  skip_one (suc d) k h e = vacant_here d k e ∙ reach d (suc d) (k + 1) (omega arith) (omega arith)

  skip : (g d k q : ℕ) → k + g ≡ q → u ≤ k + d → None m k q → live_keys m d k ≡ live_keys m d q
  skip zero d k q e h n = ap (live_keys m d) (omega arith)
  skip (suc g) d k q e h n =
      skip_one d k h (n k (omega arith) (omega arith)) ∙ skip g d (k + 1) q (omega arith) (omega arith) (λ i a z. n i (omega arith) z)

  -- in rising order
  rising : (d k : ℕ) → AscendingFrom k (live_keys m d k)
  unfolding live_keys
  rising zero k = tt
  rising (suc d) k =
      let ks = live_keys m d (k + 1) in
      by_test (λ (t : Bool). AscendingFrom k (pick t (key_of m k ∷ ks) ks)) (occupied_by v u k)
      (λ _. (omega arith, rising d (k + 1)))
      (λ _. lower k ks (rising d (k + 1)))

  pub live_keys_rise : Ascending (live_keys m m.used 0)
  live_keys_rise = rising _ _

  -- the key of an occupied slot, as it stands, is live
  live_of_lem : (i : ℕ) → occupied_by v u i ≡ true → live_by v u (key_of m i) ≡ true
  live_of_lem i e =
      let o = occupied_is v u i e in
      simp (lt-ltb i u o.0, eq-eqb (v i % 2) 1 o.1, eq-eqb (v i) (v i) refl)

  -- each live slot once, and no other
  once : (d k i : ℕ) → k ≤ i → u ≤ k + d → times i (indices (live_keys m d k)) ≡ one_if (occupied_by v u i)
  unfolding live_keys
  once zero k i h r = simp (occupied_no v u i (λ q. absurd (omega arith)))
  once (suc d) k i h r = go (ℕ_discrete i k) (once d (k + 1) i)
    where
      ks : List Key
      ks = live_keys m d (k + 1)

      seen : (n : Bool → ℕ) → times i (indices (key_of m k ∷ ks)) ≡ n true → times i (indices ks) ≡ n false →
          times i (indices (live_keys m (suc d) k)) ≡ n (occupied_by v u k)
      seen n a b = by_test (λ (t : Bool). times i (indices (pick t (key_of m k ∷ ks) ks)) ≡ n t) (occupied_by v u k) (λ _. a) (λ _. b)

      go : Dec (i ≡ k) → (k + 1 ≤ i → u ≤ k + 1 + d → times i (indices ks) ≡ one_if (occupied_by v u i)) →
          times i (indices (live_keys m (suc d) k)) ≡ one_if (occupied_by v u i)
      go (yes e) ih =
          let rest = below_none i (k + 1) ks (rising d (k + 1)) (omega arith) in
          seen one_if (omega (arith, alike_same i k e)) rest ∙ ap (λ (x : ℕ). one_if (occupied_by v u x)) (sym e)
      go (no n) ih =
          let rest = ih (omega arith) (omega arith) in
          seen (λ _. one_if (occupied_by v u i)) (omega (arith, alike_other i k n)) rest

  pub live_keys_once : (i : ℕ) → times i (indices (live_keys m m.used 0)) ≡ one_if (occupied_by m.versions m.used i)
  live_keys_once i = once _ _ i (omega arith) (omega arith)

  -- each of them a live key
  pub live_keys_live : (d k : ℕ) → AllLive m (live_keys m d k)
  unfolding live_keys
  live_keys_live zero k = tt
  live_keys_live (suc d) k =
      by_test (λ (t : Bool). occupied_by v u k ≡ t → AllLive m (pick t (key_of m k ∷ live_keys m d (k + 1)) (live_keys m d (k + 1)))) (occupied_by v u k)
      (λ e _. (live_of_lem k e, live_keys_live d (k + 1)))
      (λ _ _. live_keys_live d (k + 1)) refl

  -- as many as are live
  length_more : (d k : ℕ) → k < u → length (live_keys m (suc d) k) ≡ v k % 2 + length (live_keys m d (k + 1))
  length_more d k h = go (ℕ_discrete (v k % 2) 1)
    where
      go : Dec (v k % 2 ≡ 1) → length (live_keys m (suc d) k) ≡ v k % 2 + length (live_keys m d (k + 1))
      go (yes o) = omega (arith, ap length (live_here d k h o))
      go (no n) = omega (arith, ap length (vacant_here d k (omega arith)))

  count_on : (d k : ℕ) → k + d ≡ u → odd_count v k + length (live_keys m d k) ≡ odd_count v u
  unfolding live_keys
  count_on zero k e = let same : k ≡ u = omega arith in omega (arith, ap (odd_count v) same)
  count_on (suc d) k e =
      let next : k + 1 ≡ suc k = omega arith in
      omega (arith, length_more d k (omega arith), odd_more v k, ap (odd_count v) next, count_on d (k + 1) (omega arith))

  pub live_keys_count : length (live_keys m m.used 0) ≡ live_of m
  live_keys_count = omega (arith, count_on u 0 (omega arith), odd_none_yet v)

-- the walk, from any cursor that is not past a front, with visits enough to reach used; and from 0
module _ (l r : List ℕ) (hd : Header) (m : Machine) (s : Shows l r hd m) where
  pub walk_from : (d c : ℕ) → m.used ≤ c + d → past_front m.versions m.used c ≡ false →
      walk l r hd d c ≡ record { keys = live_keys m d c; end = done }
  unfolding walk live_keys
  walk_from zero c h p = ap ended ((hop_does l r hd m s c).answer ∙ over (hop_next m c p))
    where
      over : Next m c → hop_answer_on m c ≡ done
      over (visits q w) = absurd (omega arith)
      over (stops w) = w.answer
  walk_from (suc d) c h p = ap step (hop_does l r hd m s c).answer ∙ go (hop_next m c p) (walk_from d)
    where
      step : Values → Walk
      step a = onward (walk l r hd d) a a.kind

      found : List Key → Walk
      found ks = record { keys = ks; end = done }

      go : Next m c →
          ((q : ℕ) → m.used ≤ q + d → past_front m.versions m.used q ≡ false → walk l r hd d q ≡ found (live_keys m d q)) →
          step (hop_answer_on m c) ≡ found (live_keys m (suc d) c)
      go (visits q w) ih =
          ap step w.answer
          ∙ ap (visiting (key_of m q)) (ih (q + 1) (omega arith) (after_live m q w.live))
          ∙ ap found (sym (skip m (q - c) (suc d) c q (omega arith) h w.between ∙ live_here m d q w.below w.live))
      go (stops w) ih = ap step w.answer ∙ ap found (sym (none_left m (suc d) c w.left))

  pub walk_visits : walk l r hd m.used 0 ≡ record { keys = live_keys m m.used 0; end = done }
  walk_visits = walk_from _ _ (omega arith) (zero_first m)
