-- Removing the chosen as hop.rs does it: from live slot to live slot, the next one taken before the removal. hop.rs 608-630
use Rattle.std.specs.Prelude.{ℕ, zero, suc, ◌+◌, List, Bool}
use Rattle.rules.specs.Choice.{pick}
use Rattle.rules.specs.Words.{other_end_at, vacant_at, rise}
use Rattle.rules.specs.Values.{Outcome, plain, counted}
use Rattle.rules.specs.Remove.{remove_at}
use Rattle.rules.specs.declared.Header.{Header}

-- the slot at hand, and what has been done so far
pub record Scan : Type 0 where
  pub slot : ℕ
  pub outcome : Outcome

-- the slot to look at after slot i: the one after it, or, where that is vacant, the one after its run. One more is taken as in 32
-- bits, so that it has a meaning for any word; of a slot in use it is i + 1
unfoldable pub next_slot : List ℕ → ℕ → ℕ → ℕ
next_slot l used i = pick (vacant_at l used (rise i)) (rise (other_end_at l used (rise i))) (rise i)

-- slot i goes if it is chosen, and the count grows by 1
unfoldable pub strike_out : (ℕ → Bool) → ℕ → Outcome → Outcome
strike_out chosen i o =
    let x = remove_at o.links o.rows o.header i in
    pick (chosen i) (plain (counted (o.answer.count + 1)) x.header x.links x.rows) o

unfoldable pub scan_one : (ℕ → Bool) → Scan → Scan
scan_one chosen s =
    record {
      slot = next_slot s.outcome.links s.outcome.header.used s.slot;
      outcome = strike_out chosen s.slot s.outcome;
    }

-- the first slot is the one after slot 0's run; then n slots
abbrev pub scan_start : List ℕ → List ℕ → Header → Scan
scan_start l r hd = record { slot = rise (other_end_at l hd.used 0); outcome = plain (counted 0) hd l r }

unfoldable pub scans : (ℕ → Bool) → ℕ → Scan → Scan
scans chosen zero s = s
scans chosen (suc n) s = scan_one chosen (scans chosen n s)
