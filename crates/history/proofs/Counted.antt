-- Slots in use, event by event: there are as many as before, or as rows are live now and slot 0, whichever is more. Assumes nothing.
use mathlib.Core.Path.{◌≡◌, ap, ◌∙◌}
use mathlib.Core.Logic.{◌≢◌}
use mathlib.Core.List.{List}
use Prim.Native.Nat.{ℕ, zero, suc, ◌+◌, ◌<◌, ◌%◌, max}
use native.Mathlib.Decide.{ℕ_discrete, dec_lt}
use native.Mathlib.Omega.{arith}
use borrow.Author.Tests.{eq-eqb, ne_eqb, lt-ltb, le-ltb}
use Rattle.rules.specs.Choice.{one_if}
use Rattle.rules.specs.Runs.{odd_count}
use Rattle.rules.specs.declared.Key.{Key}
use Rattle.runs.specs.Machine.{Machine, live_of}
use Rattle.runs.proofs.Counts.{count_more, count_none_yet, odd_more, odd_none_yet, odd_same, odd_but_one}
use Rattle.runs.proofs.DrainMachine.{Headed}
use Rattle.history.specs.Events.{Event, handed, removed, wrote}
use Rattle.history.specs.Slots.{spare, vacant_below}
use Rattle.history.proofs.Live.{Live}
use Rattle.history.proofs.Paths.{Hands, Happens, changed_here, changed_not}

-- none is lost, and no more are there than the live rows ever needed; none is added where another than slot 0 was vacant
pub record Lasting (m m' : Machine) : Type 0 where
  pub larger : m'.used ≡ max m.used (suc (live_of m'))
  pub no_more : live_of m + 1 < m.used → m'.used ≡ m.used

-- slot 0 is not live
pub some_vacant : (m : Machine) → Headed m → live_of m < m.used
some_vacant m z = omega (arith, odd_but_one m.versions m.used 0 z.positive z.even)

pub same_slots : (m m' : Machine) → Headed m' → m'.used ≡ m.used → Lasting m m'
same_slots m m' z e = record { larger = omega (arith, some_vacant m' z); no_more = λ _. e }

-- slot 0 stays vacant
live_past_zero : (m : Machine) (k : Key) → Headed m → Live m k → 0 ≢ k.index
live_past_zero m k z a e = omega (arith, z.even, a.odd, ap (λ (x : ℕ). x % 2) a.same, ap (λ (x : ℕ). m.versions x % 2) e)

still_headed : (m : Machine) (e : Event) (m' : Machine) → Happens m e m' → Headed m → Headed m'
still_headed m (handed k row) m' h z =
    record {
      positive = omega (arith, h.used);
      even = ap (λ (x : ℕ). x % 2) (changed_not _ _ _ _ h.versions 0 (λ e. omega (arith, h.past_zero))) ∙ z.even;
    }
still_headed m (removed k) m' h z =
    record {
      positive = omega (arith, h.used, z.positive);
      even = ap (λ (x : ℕ). x % 2) (changed_not _ _ _ _ h.versions 0 (live_past_zero m k z h.live)) ∙ z.even;
    }
still_headed m (wrote k row) m' h z =
    record { positive = omega (arith, h.used, z.positive); even = ap (λ (f : ℕ → ℕ). f 0 % 2) h.versions ∙ z.even }

-- a key handed out for a new slot: then every slot but slot 0 is live
new_slot_lem : (m : Machine) (k : Key) (row : List ℕ) (m' : Machine) → Hands m k row m' → k.index ≡ m.used → live_of m' ≡ m.used
new_slot_lem m k row m' h e =
    let u : m'.used ≡ suc m.used = omega (arith, h.used) in
    omega (
      arith,
      ap (odd_count m'.versions) u,
      odd_more m'.versions m.used,
      odd_same m.versions m'.versions m.used (λ j q. changed_not _ _ _ _ h.versions j (λ t. omega arith)),
      ap (λ (x : ℕ). m'.versions x % 2) e,
      ap (λ (x : ℕ). x % 2) (changed_here _ _ _ _ h.versions),
      h.odd,
      h.needed e,
    )

pub slots_after : (m : Machine) (e : Event) (m' : Machine) → Happens m e m' → Headed m → Lasting m m'
slots_after m (handed k row) m' h z = go (dec_lt k.index m.used)
  where
    go : Dec (k.index < m.used) → Lasting m m'
    go (yes q) = same_slots m m' (still_headed m (handed k row) m' h z) (omega (arith, h.used))
    go (no q) =
        let e : k.index ≡ m.used = omega (arith, h.low) in
        record { larger = omega (arith, h.used, new_slot_lem m k row m' h e); no_more = λ l. absurd (omega (arith, h.needed e)) }
slots_after m (removed k) m' h z = same_slots m m' (still_headed m (removed k) m' h z) h.used
slots_after m (wrote k row) m' h z = same_slots m m' (still_headed m (wrote k row) m' h z) h.used

-- live and vacant, slot 0 not counted, are the slots in use but slot 0
pub vacant_counted : (v : ℕ → ℕ) (n : ℕ) → 0 < n → v 0 % 2 ≡ 0 → odd_count v n + vacant_below v n + 1 ≡ n
vacant_counted v zero p z = absurd (omega arith)
vacant_counted v (suc n) p z = go (ℕ_discrete n 0) (ℕ_discrete (v n % 2) 0) (vacant_counted v n)
  where
    more : vacant_below v (suc n) ≡ vacant_below v n + one_if (spare v n)
    more = count_more (spare v) n

    none : n ≡ 0 → vacant_below v n ≡ 0
    none e = ap (vacant_below v) e ∙ count_none_yet (spare v)

    go : Dec (n ≡ 0) → Dec (v n % 2 ≡ 0) → (0 < n → v 0 % 2 ≡ 0 → odd_count v n + vacant_below v n + 1 ≡ n) → odd_count v (suc n) + vacant_below v (suc n) + 1 ≡ suc n
    go (yes e) d r =
        let bit : one_if (spare v n) ≡ 0 = simp (le-ltb 0 n (omega arith)) in
        omega (arith, odd_more v n, more, bit, none e, ap (odd_count v) e, odd_none_yet v, ap (λ (x : ℕ). v x % 2) e)
    go (no f) (yes d) r =
        let bit : one_if (spare v n) ≡ 1 = simp (lt-ltb 0 n (omega arith), eq-eqb (v n % 2) 0 d) in
        omega (arith, odd_more v n, more, bit, r (omega arith) z)
    go (no f) (no d) r =
        let bit : one_if (spare v n) ≡ 0 = simp (lt-ltb 0 n (omega arith), ne_eqb (v n % 2) 0 d) in
        omega (arith, odd_more v n, more, bit, r (omega arith) z)
