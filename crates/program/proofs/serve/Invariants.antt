use Rattle.std.proofs.Common.{length}
use Rattle.commands.specs.Turns.{run_of}
use Rattle.course.specs.Pieces.{Reached}
use Rattle.program.specs.Places.{InBuffer}
use Rattle.program.proofs.serve.Given as goal

-- what is left of the piece lies in the buffer, and pieces have led here
abbrev pub invariant-loop-round : goal.invariant-loop-round
invariant-loop-round l = record {
  in_buffer : InBuffer l.next (length l.input);
  reached : Reached (run_of l.initial.links l.initial.rows l.initial.stream) (run_of l.links l.rows l.stream);
}
