-- The way from live slot to live slot, the next one taken before the removal, removes the chosen in rising order. Assumes nothing.
use mathlib.Core.Path.{◌≡◌, refl, sym, ap, ◌∙◌, subst}
use mathlib.Core.List.{List}
use mathlib.Core.Bool.{Bool, true}
use Prim.Native.Nat.{ℕ, zero, suc, ◌+◌, ◌-◌, ◌≤◌, ◌<◌, ◌%◌}
use native.Mathlib.Decide.{ℕ_discrete, dec_lt}
use native.Mathlib.Omega.{arith}
use lib.Dec.{ltb}
use borrow.Author.Tests.{le-ltb}
use Rattle.rules.specs.Choice.{pick, both}
use Rattle.rules.specs.Words.{version_at, other_end_at, rise, is_odd, vacant_by, vacant_at, occupied_by, occupied_at}
use Rattle.rules.specs.Values.{Outcome, plain, counted}
use Rattle.rules.specs.Refusals.{shape_number, side_number, zero_number, side_entry_number}
use Rattle.rules.specs.Retain.{remove_if, remove_chosen, struck_by, retain_number}
use Rattle.rules.specs.Runs.{Run, odd_count}
use Rattle.rules.specs.declared.Header.{Header}
use Rattle.rules.proofs.Choice.{by_test}
use Rattle.rules.proofs.Refusals.{passed}
use Rattle.rules.proofs.Headers.{risen}
use Rattle.rules.proofs.Shape.{shaped}
use Rattle.rules.proofs.RemoveSteps.{removed_slot}
use Rattle.rules.proofs.SlotTests.{vacant_is, vacant_not, occupied_yes, occupied_no}
use Rattle.runs.specs.Machine.{Machine, live_of, back_of, machine_of}
use Rattle.runs.specs.Steps.{lowest}
use Rattle.runs.specs.WholeTable.{remove_chosen_on}
use Rattle.runs.specs.Tables.{Shows}
use Rattle.runs.specs.Scans.{Scan, next_slot, strike_out, scan_one, scan_start, scans}
use Rattle.runs.proofs.Counts.{odd_more, odd_none, odd_rises}
use Rattle.runs.proofs.Runs.{par, after_run}
use Rattle.runs.proofs.Backs.{run_from}
use Rattle.runs.proofs.Sound.{LinkedTable, linked}
use Rattle.runs.proofs.ChosenMachine.{left}
use Rattle.runs.proofs.DrainMachine.{Headed, zero_run, none_lower, lowest_live}
use Rattle.runs.proofs.Drained.{headed, live_is, lowest_is}
use Rattle.runs.proofs.Checked.{sound_passed}
use Rattle.runs.proofs.Chosen.{chosen_does, checked_shows}

-- slots in use are few: one more does not wrap
module _ (l r : List ℕ) (hd : Header) (shape : shape_number l r hd ≡ 0) where
  pub next_number : (i : ℕ) → i < hd.used → rise i ≡ i + 1
  next_number i h = let s = shaped l r hd shape in risen i (omega (arith, s.within, s.lent.most))

module _ (chosen : ℕ → Bool) (l r : List ℕ) (hd : Header) (m : Machine) (s : Shows l r hd m) where
  -- what has been done once the slots below k have been looked at
  abbrev so_far : ℕ → Outcome
  so_far k = remove_chosen chosen k (plain (counted 0) hd l r)

  abbrev now : ℕ → Machine
  now k = (remove_chosen_on chosen k m).machine

  shown : (k : ℕ) → Shows (so_far k).links (so_far k).rows (so_far k).header (now k)
  shown k = (chosen_does chosen l r hd m s k).shows

  -- a slot from k up is then as it was
  ahead : (k i : ℕ) → k ≤ i → (now k).versions i ≡ m.versions i
  ahead k i h = (left chosen m k).versions i ∙ simp (le-ltb i k h)

  used_now : (k : ℕ) → (now k).used ≡ m.used
  used_now k = (left chosen m k).used

  same_used : (k : ℕ) → (so_far k).header.used ≡ m.used
  same_used k = ap (λ (x : Machine). x.used) (shown k).same ∙ used_now k

  version_now : (k i : ℕ) → k ≤ i → version_at (so_far k).links (so_far k).header.used i ≡ m.versions i
  version_now k i h = ap (λ (x : Machine). x.versions i) (shown k).same ∙ ahead k i h

  occupied_now : (k i : ℕ) → k ≤ i → occupied_at (so_far k).links (so_far k).header.used i ≡ occupied_by m.versions m.used i
  unfolding occupied_at
  occupied_now k i h =
      ap (λ (x : ℕ). both (ltb i (so_far k).header.used) (is_odd x)) (version_now k i h) ∙ ap (λ (x : ℕ). both (ltb i x) (is_odd (m.versions i))) (same_used k)

  -- vacant slots are passed over
  over_one : (k : ℕ) → m.versions k % 2 ≡ 0 → so_far (suc k) ≡ so_far k
  unfolding remove_chosen remove_if
  over_one k e = simp (occupied_now k k (omega arith), occupied_no m.versions m.used k (λ _. e))

  over_vacant : (d k n : ℕ) → n ≡ k + d → ((i : ℕ) → k ≤ i → i < n → m.versions i % 2 ≡ 0) → so_far n ≡ so_far k
  over_vacant zero k n e h = let f : n ≡ k = omega arith in ap so_far f
  over_vacant (suc d) k zero e h = absurd (omega arith)
  over_vacant (suc d) k (suc n) e h =
      over_one n (h n (omega arith) (omega arith)) ∙ over_vacant d k n (omega arith) (λ i p q. h i p (omega arith))

  -- at a live slot the two removals are one
  at_live : (k : ℕ) → k < m.used → m.versions k % 2 ≡ 1 → strike_out chosen k (so_far k) ≡ so_far (suc k)
  unfolding remove_chosen remove_if strike_out
  at_live k h o =
      let w = occupied_now k k (omega arith) ∙ occupied_yes m.versions m.used k h o in
      simp (removed_slot (so_far k).links (so_far k).rows (so_far k).header k w, w)

  -- the slot to look at after slot k: above it, with nothing live in between, and live if it is in use
  record Next (k q : ℕ) : Type 0 where
    above : k < q
    within : q ≤ m.used
    between : (i : ℕ) → k < i → i < q → m.versions i % 2 ≡ 0
    live : q < m.used → m.versions q % 2 ≡ 1

  module _ (k : ℕ) (low : k < m.used) (odd : m.versions k % 2 ≡ 1) where
    abbrev lk : List ℕ
    lk = (so_far k).links

    abbrev uk : ℕ
    uk = (so_far k).header.used

    abbrev vk : ℕ → ℕ
    vk = version_at (so_far k).links (so_far k).header.used

    risen_now : (i : ℕ) → i < m.used → rise i ≡ i + 1
    risen_now i h = next_number (so_far k).links (so_far k).rows (so_far k).header (shown k).shaped i (omega (arith, same_used k))

    par_now : (i : ℕ) → k ≤ i → vk i % 2 ≡ m.versions i % 2
    par_now i h = ap (λ (x : ℕ). x % 2) (version_now k i h)

    over_run_next : vacant_by vk uk (k + 1) ≡ true → Next k (rise (other_end_at lk uk (k + 1)))
    over_run_next e =
        rw ((L.ends (k + 1) (back_of vk uk (k + 1)) run).0, risen_now (back_of vk uk (k + 1)) (omega (arith, run.below, same_used k)))
        (record {
          above = omega (arith, run.ordered);
          within = omega (arith, run.below, same_used k);
          between = λ i p q. omega (arith, run.vacant i (omega arith) (omega arith), par_now i (omega arith));
          live = λ h. omega (
            arith,
            after_run vk uk (k + 1) (back_of vk uk (k + 1)) run (omega (arith, same_used k)),
            par_now (back_of vk uk (k + 1) + 1) (omega (arith, run.ordered)),
          );
        })
      where
        L : LinkedTable (so_far k).links (so_far k).header.used (shown k).sound.circle.after
        L = linked (so_far k).links (so_far k).header (shown k).sound

        w : (k + 1 < uk) × (vk (k + 1) % 2 ≡ 0)
        w = vacant_is vk uk (k + 1) e

        run : Run vk uk (k + 1) (back_of vk uk (k + 1))
        run = run_from vk uk (k + 1)
            (record { below = w.0; vacant = w.1; starts = λ j t. omega (arith, par vk j k (omega arith), par_now k (omega arith)) })

    next_is : Next k (next_slot lk uk k)
    unfolding next_slot vacant_at
    next_is =
        rw (risen_now k low)
        (by_test (λ (t : Bool). vacant_by vk uk (k + 1) ≡ t → Next k (pick t (rise (other_end_at lk uk (k + 1))) (k + 1))) (vacant_by vk uk (k + 1))
        (λ e _. over_run_next e)
        (λ e _. record {
          above = omega arith;
          within = omega arith;
          between = λ i p q. absurd (omega arith);
          live = λ h. omega (arith, vacant_not vk uk (k + 1) e (omega (arith, same_used k)), par_now (k + 1) (omega arith));
        }) refl)

  -- after n slots the one at hand has n live ones below it, and all below it have been looked at
  record Reached (n : ℕ) (c : Scan) : Type 0 where
    done_so_far : c.outcome ≡ so_far c.slot
    passed_live : odd_count m.versions c.slot ≡ n
    in_use : c.slot ≤ m.used
    at_hand : n < live_of m → (c.slot < m.used) × (m.versions c.slot % 2 ≡ 1)

  -- no live slot between: none more is counted
  odd_flat : (d k n : ℕ) → n ≡ k + d → ((i : ℕ) → k ≤ i → i < n → m.versions i % 2 ≡ 0) → odd_count m.versions n ≡ odd_count m.versions k
  odd_flat zero k n e h = let f : n ≡ k = omega arith in ap (odd_count m.versions) f
  odd_flat (suc d) k zero e h = absurd (omega arith)
  odd_flat (suc d) k (suc n) e h =
      omega (arith, odd_more m.versions n, h n (omega arith) (omega arith), odd_flat d k n (omega arith) (λ i p q. h i p (omega arith)))

  -- where fewer live slots are below q than there are, q is in use
  not_at_end : (q n : ℕ) → odd_count m.versions q ≡ n → q ≤ m.used → n < live_of m → q < m.used
  not_at_end q n e h l = go (dec_lt q m.used)
    where
      go : Dec (q < m.used) → q < m.used
      go (yes w) = w
      go (no w) = let f : q ≡ m.used = omega arith in absurd (omega (arith, ap (odd_count m.versions) f))

  first_reached : Reached 0 (scan_start l r hd)
  unfolding remove_chosen
  first_reached =
      rw (risen_first ∙ lowest_is l r hd m s)
      (record {
        done_so_far = sym (over_vacant (lowest m) 0 (lowest m) (omega arith) (λ i p q. none_lower m z i q));
        passed_live = odd_none m.versions (lowest m) (none_lower m z);
        in_use = lowest_in_use;
        at_hand = λ h. lowest_live m z (omega arith);
      })
    where
      z : Headed m
      z = headed l r hd m s

      used_is : hd.used ≡ m.used
      used_is = ap (λ (x : Machine). x.used) s.same

      lowest_in_use : lowest m ≤ m.used
      lowest_in_use = omega (arith, (zero_run m z).below)

      risen_first : rise (other_end_at l hd.used 0) ≡ other_end_at l hd.used 0 + 1
      risen_first = next_number l r hd s.shaped (other_end_at l hd.used 0) (omega (arith, lowest_is l r hd m s, (zero_run m z).below, used_is))

  next_reached : (n : ℕ) (c : Scan) → n < live_of m → Reached n c → Reached (suc n) (scan_one chosen c)
  unfolding scan_one
  next_reached n c h e =
      let k = c.slot in
      let w = e.at_hand h in
      let q = next_slot c.outcome.links c.outcome.header.used k in
      let x : Next k q = subst (λ (o : Outcome). Next k (next_slot o.links o.header.used k)) (sym e.done_so_far) (next_is k w.0 w.1) in
      let count : odd_count m.versions q ≡ suc n =
      odd_flat (q - suc k) (suc k) q (omega (arith, x.above)) (λ i a b. x.between i (omega arith) b)
      ∙ omega (arith, odd_more m.versions k, e.passed_live, w.1) in
      record {
        done_so_far =
            ap (strike_out chosen k) e.done_so_far ∙ at_live k w.0 w.1
            ∙ sym (over_vacant (q - suc k) (suc k) q (omega (arith, x.above)) (λ i a b. x.between i (omega arith) b));
        passed_live = count;
        in_use = x.within;
        at_hand = λ t. let b = not_at_end q (suc n) count x.within t in (b, x.live b);
      }

  reached : (n : ℕ) → n ≤ live_of m → Reached n (scans chosen n (scan_start l r hd))
  unfolding scans
  reached zero h = first_reached
  reached (suc n) h = next_reached n (scans chosen n (scan_start l r hd)) (omega arith) (reached n (omega arith))

  -- from where all live slots have been passed, nothing is left to do
  last_vacant : (k : ℕ) → odd_count m.versions k ≡ live_of m → k ≤ m.used → (i : ℕ) → k ≤ i → i < m.used → m.versions i % 2 ≡ 0
  last_vacant k e h i p q = go (ℕ_discrete (m.versions i % 2) 0)
    where
      go : Dec (m.versions i % 2 ≡ 0) → m.versions i % 2 ≡ 0
      go (yes w) = w
      go (no w) = absurd (omega (arith, odd_more m.versions i, odd_rises m.versions k i p, odd_rises m.versions (suc i) m.used (omega arith)))

  pub scan_is : (scans chosen hd.live (scan_start l r hd)).outcome ≡ remove_chosen chosen hd.used (plain (counted 0) hd l r)
  scan_is =
      let e = reached hd.live (omega (arith, live_is l r hd m s)) in
      let k = (scans chosen hd.live (scan_start l r hd)).slot in
      let u : hd.used ≡ m.used = ap (λ (x : Machine). x.used) s.same in
      e.done_so_far
      ∙ sym (over_vacant (m.used - k) k m.used (omega (arith, e.in_use)) (last_vacant k (e.passed_live ∙ live_is l r hd m s) e.in_use))
      ∙ ap so_far (sym u)

-- so retain's way is its rule
pub retain_scans : (l r : List ℕ) (hd : Header) (bytes : List ℕ) → retain_number l r hd bytes ≡ 0 →
    (scans (struck_by bytes) hd.live (scan_start l r hd)).outcome ≡ remove_chosen (struck_by bytes) hd.used (plain (counted 0) hd l r)
unfolding retain_number side_entry_number zero_number side_number
retain_scans l r hd bytes e =
    let p = sound_passed l hd _ e in
    let f = (passed _ _ _ (omega arith) (passed _ _ _ (omega arith) p.0).0).0 in
    scan_is (struck_by bytes) l r hd (machine_of l r hd p.1.circle.after) (checked_shows l r hd f p.1)
