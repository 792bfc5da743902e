use Rattle.std.proofs.Common.{sym, arith}
use Rattle.rules.proofs.Shape.{Shaped, entered}
use Rattle.start.proofs.room.Goals as goal
use Rattle.start.proofs.room.Goals.{In_default}

-- past the tests at entry the shape is right
shape : (c : In_default) → Shaped c.args.links.now c.args.rows.now c.args.header
shape c = entered _ _ _ (sym c.in_default.ensures)

pub overflow_cast-lent : goal.overflow_cast-lent
overflow_cast-lent c = omega (arith, (shape c).lent.most)

pub overflow_sub-result : goal.overflow_sub-result
overflow_sub-result c = let s = shape (goal.at.overflow_sub-result c).In_default in omega (arith, s.few, s.within)
