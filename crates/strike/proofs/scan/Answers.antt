use Rattle.std.proofs.Common.{◌≡◌, ℕ, ◌+◌, ◌≤◌, Bool, add-one, arith}
use Rattle.rules.specs.Values.{Outcome}
use Rattle.rules.proofs.Choice.{by_pick}
use Rattle.runs.specs.Scans.{Scan, strike_out, scan_one, scans}
use Rattle.strike.proofs.scan.Goals as goal

-- one slot more
one_more : (chosen : ℕ → Bool) (s : Scan) (n : ℕ) (x : Scan) → x ≡ scans chosen n s → (y : Scan) → y ≡ scan_one chosen x → y ≡ scans chosen (n + 1) s
unfolding scans
one_more chosen s n x e y d = rw (add-one, d, e)

-- at most one row goes
one_most : (chosen : ℕ → Bool) (i : ℕ) (o x : Outcome) → x ≡ strike_out chosen i o → x.answer.count ≤ o.answer.count + 1
unfolding strike_out
one_most chosen i o x e =
    rw e (by_pick (λ (y : Outcome). y.answer.count ≤ o.answer.count + 1) (chosen i) _ _ (λ _. omega arith) (λ _. omega arith))

pub loop-seen-preserved : goal.loop-seen-preserved
unfolding scan_one
loop-seen-preserved c =
    let v = c.loop-seen in (
      omega (arith, v.invariant.0, one_most _ _ _ _ c.strike_out-struck.ensures),
      one_more _ _ v.seen _ v.invariant.1 _ (rw (c.next_slot-cur.ensures, c.strike_out-struck.ensures)),
    )
