-- Remove. hop.rs 492-556 (the slot) and 570-578 (the key)
use Rattle.std.specs.Prelude.{ℕ, ◌+◌, ◌-◌, List, not, ltb, eqb}
use Rattle.rules.specs.Choice.{pick, both}
use Rattle.rules.specs.Words.{rise, version_at, next_at, prev_at, other_end_at, set_version, set_next, set_prev, set_other_end, zero_row, row_at, set_row, vacant_at, occupied_at, key_at}
use Rattle.rules.specs.Headers.{one_less}
use Rattle.rules.specs.Values.{Outcome, keyed, unless}
use Rattle.rules.specs.Refusals.{◌▸◌, passes, damaged, astray}
use Rattle.rules.specs.Access.{key_number}
use Rattle.rules.specs.declared.Header.{Header}
use Rattle.rules.specs.declared.Key.{Key}
use Rattle.rules.specs.declared.steps.Beside.{Beside}

-- the slots beside slot i, and whether each is vacant: left is i − 1, right is i + 1 if below used
abbrev pub beside : List ℕ → ℕ → ℕ → Beside
beside l used i =
    record {
      left = i - 1;
      right = i + 1;
      before = vacant_at l used (i - 1);
      after = vacant_at l used (i + 1);
    }

-- live ≥ 1; where neither is vacant, t below used and vacant
unfoldable pub apart_number : List ℕ → Header → Beside → ℕ
apart_number l hd x =
    passes
    ▸ (eqb hd.live 0, damaged)
    ▸ (both (both (not x.before) (not x.after)) (astray l hd.used (prev_at l hd.used 0)), damaged)

-- where left is vacant: f below used and vacant, and f ≤ i − 1
unfoldable pub left_number : ℕ → List ℕ → Header → Beside → ℕ
left_number n l hd x =
    n
    ▸ (both x.before (astray l hd.used (other_end_at l hd.used x.left)), damaged)
    ▸ (both x.before (ltb x.left (other_end_at l hd.used x.left)), damaged)

-- where right is vacant: n, p and e below used and vacant, and e ≥ i + 1
unfoldable pub right_number : ℕ → List ℕ → Header → Beside → ℕ
right_number n l hd x =
    n
    ▸ (both x.after (astray l hd.used (next_at l hd.used x.right)), damaged)
    ▸ (both x.after (astray l hd.used (prev_at l hd.used x.right)), damaged)
    ▸ (both x.after (astray l hd.used (other_end_at l hd.used x.right)), damaged)
    ▸ (both x.after (ltb (other_end_at l hd.used x.right) x.right), damaged)

unfoldable pub remove_number : List ℕ → Header → Beside → ℕ
remove_number l hd x = right_number (left_number (apart_number l hd x) l hd x) l hd x

-- neither vacant: with t = prev(0), prev(0) and next(t) become i; slot i gets other_end i, next 0, prev t
unfoldable pub set_apart : List ℕ → ℕ → ℕ → List ℕ
set_apart l used i =
    let t = prev_at l used 0 in
    set_prev (set_next (set_other_end (set_next (set_prev l 0 i) t i) i i) i 0) i t

-- right only: with the front data of i + 1 (next n, prev p, other_end e), other_end(e), next(p) and prev(n) become i,
-- then slot i gets that data
unfoldable pub join_right : List ℕ → ℕ → ℕ → ℕ → List ℕ
join_right l used i right =
    let n = next_at l used right in
    let p = prev_at l used right in
    let e = other_end_at l used right in
    set_other_end (set_prev (set_next (set_prev (set_next (set_other_end l e i) p i) n i) i n) i p) i e

-- left only: with f = other_end(i − 1), other_end(i) becomes f, other_end(f) becomes i
unfoldable pub join_left : List ℕ → ℕ → ℕ → ℕ → List ℕ
join_left l used i left =
    let f = other_end_at l used left in
    set_other_end (set_other_end l i f) f i

-- both: next(p) becomes n, prev(n) becomes p for the right run; then other_end(f) becomes e, other_end(e) becomes f
unfoldable pub join_both : List ℕ → ℕ → ℕ → ℕ → List ℕ
join_both l used left right =
    let f = other_end_at l used left in
    let n = next_at l used right in
    let p = prev_at l used right in
    let e = other_end_at l used right in
    set_other_end (set_other_end (set_prev (set_next l p n) n p) f e) e f

-- the case at hand: in each, all links are read as they stood at the call, then written in the order named
unfoldable pub freed : List ℕ → ℕ → ℕ → Beside → List ℕ
freed l used i x =
    pick x.before
    (pick x.after (join_both l used x.left x.right) (join_left l used i x.left))
    (pick x.after (join_right l used i x.right) (set_apart l used i))

-- the row comes back and becomes zero; the version rises by one; live falls by 1.
-- No link written is a version, so the version may be written last
unfoldable pub remove_step : List ℕ → List ℕ → Header → Key → Beside → Outcome
remove_step l r hd k x =
    record {
      answer = keyed k;
      row = row_at r hd.used k.index;
      header = one_less hd;
      links = set_version (freed l hd.used k.index x) k.index (rise (version_at l hd.used k.index));
      rows = set_row r k.index zero_row;
    }

unfoldable pub remove_by : List ℕ → List ℕ → Header → Key → Beside → Outcome
remove_by l r hd k x = unless l r hd (remove_number l hd x) (remove_step l r hd k x)

-- the removal of an occupied slot that is in use, under its key
unfoldable pub remove_slot : List ℕ → List ℕ → Header → Key → Outcome
remove_slot l r hd k = remove_by l r hd k (beside l hd.used k.index)

-- the removal of slot q under the key that it has; in the drain step it is below used and occupied, else 2
unfoldable pub slot_number : List ℕ → Header → ℕ → ℕ
slot_number l hd q = passes ▸ (not (occupied_at l hd.used q), damaged)

unfoldable pub remove_at : List ℕ → List ℕ → Header → ℕ → Outcome
remove_at l r hd q = unless l r hd (slot_number l hd q) (remove_slot l r hd (key_at l hd.used q))

unfoldable pub remove_rule : List ℕ → List ℕ → Header → Key → Outcome
remove_rule l r hd k = unless l r hd (key_number l r hd k) (remove_slot l r hd k)
