use Rattle.std.proofs.Common.{◌≡◌, ◌≤◌}
use Rattle.rules.specs.Values.{plain, counted}
use Rattle.rules.specs.Retain.{struck_by}
use Rattle.runs.specs.Scans.{scan_start, scans}
use Rattle.strike.proofs.scan.Given as goal

-- what has been done so far is what the steps so far do, and no more went than were looked at
abbrev pub invariant-loop-seen : goal.invariant-loop-seen
invariant-loop-seen l =
    (l.struck.count ≤ l.seen)
    × (record { slot = l.cur; outcome = plain (counted l.struck.count) l.struck.header l.links l.rows } ≡ scans (struck_by l.bytes) l.seen (scan_start l.initial.links l.initial.rows l.fn.header))
