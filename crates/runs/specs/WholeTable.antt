-- The machine's steps on the whole table: draining, the removal of the chosen, clear, retain, the soundness check, room; and where a
-- machine begins: start and rebuild.
use Rattle.std.specs.Prelude.{ℕ, zero, suc, ◌+◌, ◌-◌, List, [], Bool, true, length}
use Rattle.rules.specs.Choice.{pick, both}
use Rattle.rules.specs.Words.{zero_row, vacant_by, occupied_by}
use Rattle.rules.specs.Values.{counted, done}
use Rattle.rules.specs.Refusals.{passes, side_number}
use Rattle.rules.specs.Retain.{struck_by}
use Rattle.runs.specs.Machine.{Machine, live_of}
use Rattle.runs.specs.Rising.{rising}
use Rattle.runs.specs.Steps.{Step, stays, step_unless, freed_on, drain_on}

-- the drain step n times over
unfoldable pub drains_on : ℕ → Machine → Machine
drains_on zero m = m
drains_on (suc n) m = drains_on n (drain_on m).machine

-- the chosen among the slots below n go, in rising order; how many went
pub record Tally : Type 0 where
  pub count : ℕ
  pub machine : Machine

unfoldable pub remove_if_on : (ℕ → Bool) → ℕ → Tally → Tally
remove_if_on chosen i s =
    pick (both (occupied_by s.machine.versions s.machine.used i) (chosen i))
    (record { count = s.count + 1; machine = freed_on s.machine i }) s

unfoldable pub remove_chosen_on : (ℕ → Bool) → ℕ → Machine → Tally
remove_chosen_on chosen zero m = record { count = 0; machine = m }
remove_chosen_on chosen (suc n) m = remove_if_on chosen n (remove_chosen_on chosen n m)

-- clear, retain
abbrev pub all : ℕ → Bool
all i = true

unfoldable pub clear_on : Machine → Step
clear_on m = stays (remove_chosen_on all m.used m).machine done

unfoldable pub retain_on : Machine → List ℕ → Step
retain_on m bytes =
    step_unless m (side_number passes (length bytes) m.used)
    (let s = remove_chosen_on (struck_by bytes) m.used m in stays s.machine (counted s.count))

-- the soundness check, room
abbrev pub check_on : Machine → Step
check_on m = stays m done

abbrev pub room_on : Machine → Step
room_on m = stays m (counted (m.lent - live_of m))

-- where a machine begins: start; a rebuild of n slots, which keeps the versions and the rows of occupied slots, and chains the
-- fronts of the runs in rising order. A rebuild may read slots that were not in use, so it is a step from words, not from a machine
abbrev pub start_on : ℕ → Step
start_on lent =
    stays (record { versions = λ _. 0; rows = λ _. zero_row; used = 1; fronts = []; lent = lent }) done

abbrev pub rebuild_on : (ℕ → ℕ) → (ℕ → List ℕ) → ℕ → ℕ → Step
rebuild_on v rows n lent =
    stays (record {
      versions = v;
      rows = λ i. pick (vacant_by v n i) zero_row (rows i);
      used = n;
      fronts = rising v n;
      lent = lent;
    }) done
