use Rattle.std.proofs.Common.{◌≤◌, length, sym}
use Rattle.std.proofs.lemmas.List.{length-take-le}
use Rattle.program.proofs.Rest.{kept_value, ended_within}
use Rattle.program.proofs.finish.Goals as goal
use Rattle.program.proofs.finish.Goals.{In_ok-fed}

-- what was replied lies within the output
replied : (c : In_ok-fed) → c.in_ok-fed.fed.written ≤ length c.finish.new.out
replied c = ended_within _ _ _ _ _ _ _ _ c.finish.ensures (kept_value _ _ _ _ c.map_err.ensures.cases c.in_ok-fed.was)

pub slice_bounds-write_reply-end : goal.slice_bounds-write_reply-end
slice_bounds-write_reply-end c = replied c

pub slice_bounds-write_reply-end-2 : goal.slice_bounds-write_reply-end-2
slice_bounds-write_reply-end-2 c = sym (length-take-le _ _ (replied c))
