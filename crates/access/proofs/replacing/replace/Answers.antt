use Rattle.std.proofs.Common.{◌≡◌, ◌+◌, ◌*◌, ◌≤◌, length, sym, ap, arith}
use Rattle.rules.specs.Words.{row_words}
use Rattle.rules.specs.Values.{plain, done}
use Rattle.rules.specs.Access.{replace_rule}
use Rattle.rules.proofs.Outcomes.{done_by}
use Rattle.rules.proofs.Access.{replace_within}
use Rattle.access.proofs.Part.{lent_on}
use Rattle.access.proofs.replacing.replace.Goals as goal
use Rattle.access.proofs.replacing.replace.Goals.{In_default}

-- past the tests the row is within the table and the side buffer is a row
fits : (c : In_default) → (c.args.key.index * row_words + row_words ≤ length c.args.rows.now) × (length c.args.side.now ≡ row_words)
fits c = replace_within _ _ _ _ _ (sym c.in_default.ensures)

pub slice_bounds-set_row-end : goal.slice_bounds-set_row-end
slice_bounds-set_row-end c = omega (arith, (fits (goal.at.slice_bounds-set_row-end c).In_default).0)

pub returns : goal.returns
unfolding replace_rule
returns c =
    let f = fits (goal.at.returns c).In_default in
    done_by _ _ _ _ _ c.in_default.ensures _ (rw c.set_row.ensures (ap (plain done _ _) (lent_on _ _ _ f.1 f.0)))
