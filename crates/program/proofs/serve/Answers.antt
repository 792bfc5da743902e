use Rattle.course.proofs.Reached.{reached_still, reached_after}
use Rattle.program.proofs.Goes.{fed_reached}
use Rattle.program.proofs.serve.Goals as goal
use Rattle.program.proofs.serve.Goals.{in-Feed+in_ok-next-in-Feed, in-Read+in_ok-next-in-Read}

pub loop-round-init : goal.loop-round-init
loop-round-init c = record { in_buffer = tt; reached = reached_still _ }

pub returns-in_err-next-in-Feed : goal.returns-in_err-next-in-Feed
returns-in_err-next-in-Feed c =
    reached_after c.loop-round.invariant.reached (fed_reached _ _ _ _ c.in_err-next-in-Feed.ensures.fed.run)

pub loop-round-preserved : goal.loop-round-preserved
loop-round-preserved c =
    elim c.match-next.branch [
      | in-Feed+in_ok-next-in-Feed w ↦
          record {
            in_buffer = rw (w.next-is, w.input-is) w.in_ok-next-in-Feed.ensures.in_buffer;
            reached =
                rw (w.links-is, w.rows-is, w.stream-is)
                (reached_after c.loop-round.invariant.reached (fed_reached _ _ _ _ w.in_ok-next-in-Feed.ensures.fed.run));
          }
      | in-Read+in_ok-next-in-Read w ↦
          record {
            in_buffer = rw (w.next-is, w.input-is, w.read_piece.auto.input) w.in_ok-next-in-Read.ensures;
            reached = rw (w.links-is, w.rows-is, w.stream-is) c.loop-round.invariant.reached;
          }
    ]
