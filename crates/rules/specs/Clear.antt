-- Clear: the whole soundness check, then the drain step to the end. hop.rs 647-649 and 1157-1161
use Rattle.std.specs.Prelude.{ℕ, zero, suc, ◌+◌, List}
use Rattle.rules.specs.Values.{Outcome, plain, done, unless}
use Rattle.rules.specs.Refusals.{entry_number}
use Rattle.rules.specs.Drain.{drain_rule}
use Rattle.rules.specs.Check.{sound_number}
use Rattle.rules.specs.declared.Header.{Header}

-- the drain step n times over, each from what the last one left
unfoldable pub drain_times : ℕ → Outcome → Outcome
drain_times zero o = o
drain_times (suc n) o = drain_times n (drain_rule o.links o.rows o.header)

-- to the end: in a sound table each step takes one row, and the one after the last row answers done
unfoldable pub clear_rule : List ℕ → List ℕ → Header → Outcome
clear_rule l r hd =
    unless l r hd (sound_number (entry_number l r hd) l hd) (drain_times (hd.live + 1) (plain done hd l r))
