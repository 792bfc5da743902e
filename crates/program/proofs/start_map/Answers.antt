use Rattle.std.proofs.Common.{refl, arith}
use Rattle.program.proofs.Starts.{starts}
use Rattle.program.proofs.start_map.Goals as goal

pub returns-in_err-map_err-clause-value : goal.returns-in_err-map_err-clause-value
returns-in_err-map_err-clause-value c =
    let told = rw (starts _ _ _ (omega arith) (omega arith) _ _ _ c.start-made.ensures).0 at c.map_err.ensures.cases in
    cc (told, c.in_err-map_err.was)

pub returns-clause-value : goal.returns-clause-value
returns-clause-value c = rw (c.opened.ensures, (starts _ _ _ (omega arith) (omega arith) _ _ _ c.start-made.ensures).1) refl
