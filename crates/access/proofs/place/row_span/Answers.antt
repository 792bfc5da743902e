use Rattle.std.proofs.Common.{length, sym, ap, ◌∙◌, arith}
use Rattle.rules.proofs.Chain.{some_number}
use Rattle.rules.proofs.Access.{missed, found, found_length}
use Rattle.access.proofs.place.row_span.Goals as goal

pub returns-in-Err : goal.returns-in-Err
returns-in-Err c =
    let m = missed _ _ _ _ (λ z. some_number _ (c.in-Err.ensures ∙ z)) in
    record { start = sym m.0; end = omega (arith, m.0, ap length m.1) }

pub returns : goal.returns
returns c =
    let h = sym c.in_default.ensures in
    record { start = sym (found _ _ _ _ h).0; end = omega (arith, (found _ _ _ _ h).0, found_length _ _ _ _ h) }
