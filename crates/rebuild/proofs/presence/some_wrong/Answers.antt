use Rattle.std.proofs.Common.{sym, ◌∙◌}
use Rattle.rules.proofs.Below.{some_found}
use Rattle.rebuild.proofs.presence.some_wrong.Goals as goal

pub returns-then-wrong_byte : goal.returns-then-wrong_byte
returns-then-wrong_byte c = sym (some_found _ _ c.loop-i.i c.loop-i-test.true (sym c.wrong_byte.ensures ∙ c.if-wrong_byte.true))
