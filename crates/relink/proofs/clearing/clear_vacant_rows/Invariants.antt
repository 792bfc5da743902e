use Rattle.std.proofs.Common.{◌≡◌}
use Rattle.rules.specs.Rebuild.{cleared_rows}
use Rattle.relink.proofs.clearing.clear_vacant_rows.Given as goal

abbrev pub invariant-loop-i : goal.invariant-loop-i
invariant-loop-i l = l.rows ≡ cleared_rows l.links l.n l.i l.initial.rows
