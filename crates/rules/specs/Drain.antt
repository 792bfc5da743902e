-- The drain step. hop.rs 669-674 and 1131-1150
use Rattle.std.specs.Prelude.{ℕ, ◌+◌, List, eqb}
use Rattle.rules.specs.Choice.{pick}
use Rattle.rules.specs.Words.{other_end_at}
use Rattle.rules.specs.Values.{Outcome, plain, done, unless}
use Rattle.rules.specs.Refusals.{entry_number}
use Rattle.rules.specs.Remove.{remove_at}
use Rattle.rules.specs.declared.Header.{Header}

-- remove slot other_end(0) + 1 and give key and row; done, with no next, prev or other_end read, when live is 0
unfoldable pub drain_rule : List ℕ → List ℕ → Header → Outcome
drain_rule l r hd =
    unless l r hd (entry_number l r hd)
    (pick (eqb hd.live 0) (plain done hd l r) (remove_at l r hd (other_end_at l hd.used 0 + 1)))
