-- Retain: the whole soundness check, then the chosen slots are removed in rising order. hop.rs 603-631
use Rattle.std.specs.Prelude.{ℕ, zero, suc, ◌+◌, List, Bool, length, get_or, eqb}
use Rattle.rules.specs.Choice.{pick, both}
use Rattle.rules.specs.Words.{occupied_at, key_at}
use Rattle.rules.specs.Values.{Outcome, plain, counted, unless}
use Rattle.rules.specs.Refusals.{side_entry_number}
use Rattle.rules.specs.Remove.{remove_slot}
use Rattle.rules.specs.Check.{sound_number}
use Rattle.rules.specs.declared.Header.{Header}

-- slot i goes if it is live and chosen, and the count grows by 1. Past the soundness check no such removal is refused: a theorem of
-- the theory of runs
unfoldable pub remove_if : (ℕ → Bool) → ℕ → Outcome → Outcome
remove_if chosen i o =
    let goes = both (occupied_at o.links o.header.used i) (chosen i) in
    let x = remove_slot o.links o.rows o.header (key_at o.links o.header.used i) in
    pick goes (plain (counted (o.answer.count + 1)) x.header x.links x.rows) o

-- the slots below n, in rising order
unfoldable pub remove_chosen : (ℕ → Bool) → ℕ → Outcome → Outcome
remove_chosen chosen zero o = o
remove_chosen chosen (suc n) o = remove_if chosen n (remove_chosen chosen n o)

-- one byte per used slot: 0 removes a live slot, any other keeps it; bytes at vacant slots count for nothing
abbrev pub struck_by : List ℕ → ℕ → Bool
struck_by bytes i = eqb (get_or bytes i 0) 0

unfoldable pub retain_number : List ℕ → List ℕ → Header → List ℕ → ℕ
retain_number l r hd bytes = sound_number (side_entry_number l r hd (length bytes) hd.used) l hd

unfoldable pub retain_rule : List ℕ → List ℕ → Header → List ℕ → Outcome
retain_rule l r hd bytes =
    unless l r hd (retain_number l r hd bytes)
    (remove_chosen (struck_by bytes) hd.used (plain (counted 0) hd l r))
