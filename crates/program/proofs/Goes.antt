-- Where a fed piece leads. Assumes nothing.
use Rattle.std.proofs.Common.{◌≡◌, ℕ, List, sym, subst}
use Rattle.stream.specs.Feeding.{feed_rule}
use Rattle.commands.specs.Turns.{Run}
use Rattle.course.specs.Pieces.{Reached}
use Rattle.course.proofs.Reached.{reached_on}

pub fed_reached : (s : Run) (input out : List ℕ) (t : Run) → t ≡ (feed_rule s input out).run → Reached s t
fed_reached s input out t e = subst (Reached s) (sym e) (reached_on s input out)
