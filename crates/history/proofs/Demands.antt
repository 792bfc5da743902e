-- Demands 1 and 3, as specs/Demands states them: one term of each. Assumes nothing.
use mathlib.Core.Path.{◌≡◌, refl, sym, ap, ◌∙◌}
use mathlib.Core.List.{List, ◌∷◌, ◌++◌}
use Prim.Native.Nat.{◌<◌, ◌%◌}
use native.Mathlib.Omega.{arith}
use Rattle.rules.specs.Values.{of_number, refused}
use Rattle.rules.specs.Refusals.{not_live}
use Rattle.rules.specs.declared.Key.{Key}
use Rattle.runs.specs.Machine.{Machine}
use Rattle.runs.specs.Steps.{look_on}
use Rattle.runs.proofs.Removed.{key_number_is}
use Rattle.runs.proofs.Chosen.{check_does}
use Rattle.history.specs.Calls.{start, rebuild, ask, number}
use Rattle.history.specs.Histories.{answer, looked, next, after, History, now, heard}
use Rattle.history.specs.Bystander.{Book, reckoned}
use Rattle.history.specs.Events.{Event, removed, all_told, seen, happened}
use Rattle.history.specs.Versions.{round}
use Rattle.history.specs.Demands.{Demand1, Demand3}
use Rattle.history.proofs.Live.{dead_number}
use Rattle.history.proofs.Books.{all_told_lem}
use Rattle.history.proofs.Ages.{live_again, own_seen, not_before}
use Rattle.history.proofs.AnyWords.{told}
use Rattle.history.proofs.Refusing.{numbers}
use Rattle.history.proofs.Reduced.{reduces}
use Rattle.history.proofs.GivenBack.{remove_gives_back, drain_gives_back}
use Rattle.history.proofs.Whole.{rows_live, slots_are, looked_is, through, opening, opens, so_far, removal}

pub demand_1 : Demand1
demand_1 =
    record {
      works = λ t c. (told t c).works;
      numbered = λ t c r. ((told t c).down r).numbered;
      unchanged = λ t c r. ((told t c).down r).unchanged;
      zeros = λ t c r. ((told t c).down r).zeros;
      row_zeroed = λ t c r. ((told t c).down r).row_zeroed;
    }

module _ (h : History) where
  -- the machine that the table is after the calls
  abbrev m : Machine
  m = (so_far h).machine

  -- what leads from the first machine's book to the last one's leads from the first look to the last
  looks_lead : (f : Book → Book) → f (look_on (opening h)) ≡ look_on m → (k : Key) → looked (now h) k ≡ f (looked h.first) k
  looks_lead f e k =
      ap (λ (book : Book). book k) (looked_is (now h) m (so_far h).stands ∙ sym e ∙ ap f (sym (looked_is h.first (opening h) (opens h))))

  -- not live again: its slot has been filled again too few times
  stays_dead : (es fs : List Event) (k : Key) → happened h ≡ es ++ removed k ∷ fs → seen k.index (removed k ∷ fs) < round →
      answer (now h) (ask (number k)) ≡ refused not_live
  stays_dead es fs k at few =
      let parts = removal h es fs k at in
      let odd : k.version % 2 ≡ 1 = parts.2.1.live.odd in
      let seen-once = own_seen parts.0 k fs m parts.2 in
      let n = dead_number m k odd (λ a. not_before _ k.version odd seen-once few (live_again parts.0 k fs m parts.2 a)) in
      ap of_number (key_number_is (now h).links (now h).rows (now h).header m (so_far h).stands k ∙ n)

pub demand_3 : Demand3
demand_3 =
    record {
      start_begins = λ l r hd u. record { by = start; links = l; rows = r; header = hd; unrefused = u; leaves = refl };
      rebuild_begins = λ l r hd bytes u. record { by = rebuild bytes; links = l; rows = r; header = hd; unrefused = u; leaves = refl };
      keys_reckoned = λ h. looks_lead h (λ (book : Book). reckoned book h.calls (heard h)) (so_far h).has;
      events_tell = λ h. looks_lead h (all_told (happened h)) (all_told_lem (opening h) (happened h) (m h) (so_far h).path);
      removed_row = λ h. remove_gives_back (now h) (m h) (so_far h).stands;
      drained_row = λ h. drain_gives_back (now h) (m h) (so_far h).stands;
      shaped = λ h. (so_far h).stands.shaped;
      sound = λ h. (so_far h).stands.sound;
      check_passes = λ h. (check_does (now h).links (now h).rows (now h).header (m h) (so_far h).stands).answer;
      slots_law = λ h. omega (arith, (so_far h).used, slots_are (now h) (m h) (so_far h).stands, slots_are h.first (opening h) (opens h));
      no_slot_lost = λ h ds v.
          let q = through (now h) (m h) (so_far h).stands ds v in
          omega (arith, q.used, slots_are (now h) (m h) (so_far h).stands, slots_are (after (now h) ds) q.machine q.stands);
      none_added = λ h c g v.
          let s = (so_far h).stands in
          let r = reduces (now h) (m h) s c g in
          let u = r.becomes.slots.no_more (omega (arith, slots_are (now h) (m h) s, rows_live (now h) (m h) s)) in
          omega (arith, slots_are (now h) (m h) s, u, slots_are (next (now h) c) r.machine r.stands);
      dead = stays_dead;
      numbers = λ h. numbers (now h) (m h) (so_far h).stands;
    }
