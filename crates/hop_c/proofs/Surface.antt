-- What is answered is flat of what the call below hands back, and so of the rule. The check finds this alone at every exported
-- function. Assumes nothing.
use mathlib.Core.Path.{◌≡◌, ap, ◌∙◌}
use Rattle.rules.specs.Values.{Outcome}
use Rattle.flat.specs.Flat.{flat, surfaced, flattened}
use Rattle.flat.specs.declared.Answer.{Answer}

pub surfaced_by : (x : Answer) (o rule : Outcome) → x ≡ flat o → o ≡ rule → surfaced x o.links o.rows ≡ flattened rule
surfaced_by x o rule e same = ap (λ (y : Answer). surfaced y o.links o.rows) e ∙ ap flattened same
