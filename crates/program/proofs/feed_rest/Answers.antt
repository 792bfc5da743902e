use Rattle.std.proofs.Common.{◌≤◌, length, sym, arith}
use Rattle.std.proofs.lemmas.List.{length-take-le}
use Rattle.program.proofs.Rest.{rest_length, next_in_buffer, kept_value, fed_within}
use Rattle.program.specs.Places.{rest_of}
use Rattle.program.proofs.feed_rest.Goals as goal
use Rattle.program.proofs.feed_rest.Goals.{In_ok-fed}

-- no more was taken than was left, and what was replied lies within the output
within : (c : In_ok-fed) → (c.in_ok-fed.fed.taken ≤ length (rest_of c.args.at c.args.end c.args.input.now)) × (c.in_ok-fed.fed.written ≤ length c.feed.new.out)
within c =
    let w = fed_within _ _ _ _ _ _ _ _ _ c.feed.ensures (kept_value _ _ _ _ c.map_err.ensures.cases c.in_ok-fed.was) in (w.0, w.1)

pub slice_bounds-write_reply-end : goal.slice_bounds-write_reply-end
slice_bounds-write_reply-end c = (within (goal.at.slice_bounds-write_reply-end c).In_ok-fed).1

pub slice_bounds-write_reply-end-2 : goal.slice_bounds-write_reply-end-2
slice_bounds-write_reply-end-2 c = sym (length-take-le _ _ (within (goal.at.slice_bounds-write_reply-end-2 c).In_ok-fed).1)

pub next_after-requires : goal.next_after-requires
next_after-requires c =
    let rest = rest_length c.args.input.now c.args.at c.args.end c.requires.stop in
    omega (arith, (within (goal.at.next_after-requires c).In_ok-fed).0, rest, c.requires.start, c.requires.stop)

pub returns-clause-in_buffer : goal.returns-clause-in_buffer
returns-clause-in_buffer c =
    let rest = rest_length c.args.input.now c.args.at c.args.end c.requires.stop in
    let taken = (within (goal.at.returns-clause-in_buffer c).In_ok-fed).0 in
    rw c.next_after.ensures (next_in_buffer _ _ _ _ _ _ (omega (arith, taken, rest, c.requires.start)) c.requires.stop)
