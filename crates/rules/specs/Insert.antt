-- Insert, from an eight-word side buffer. hop.rs 426-487
use Rattle.std.specs.Prelude.{ℕ, ◌-◌, List, Bool, not, length, ltb, eqb}
use Rattle.rules.specs.Choice.{pick, both}
use Rattle.rules.specs.Words.{row_words, lent_of, with_bit, version_at, next_at, other_end_at, set_version, set_next, set_prev, set_other_end, new_slot, set_row}
use Rattle.rules.specs.Headers.{one_more, grown}
use Rattle.rules.specs.Values.{Outcome, plain, keyed, unless}
use Rattle.rules.specs.Refusals.{◌▸◌, damaged, full, astray, side_entry_number}
use Rattle.rules.specs.declared.Header.{Header}
use Rattle.rules.specs.declared.steps.InsertLinks.{InsertLinks}

-- the links that insert follows: h = next(0), b = other_end(h), and n = next(h), which counts where h = b, not 0
abbrev pub insert_links : List ℕ → ℕ → InsertLinks
insert_links l used =
    let h = next_at l used 0 in
    record { h = h; b = other_end_at l used h; n = next_at l used h }

-- h and b below used and vacant; h ≤ b; other_end(b) = h; live < used − 1 where b is not 0
unfoldable pub run_number : ℕ → List ℕ → Header → InsertLinks → ℕ
run_number n l hd x =
    n
    ▸ (astray l hd.used x.h, damaged)
    ▸ (astray l hd.used x.b, damaged)
    ▸ (ltb x.b x.h, damaged)
    ▸ (not (eqb (other_end_at l hd.used x.b) x.h), damaged)
    ▸ (both (not (eqb x.b 0)) (not (ltb hd.live (hd.used - 1))), damaged)

-- the run is one slot long: h = b, not 0
abbrev pub last_slot : InsertLinks → Bool
last_slot x = both (eqb x.h x.b) (not (eqb x.b 0))

-- where h = b, not 0: n below used and vacant, and not h; where h is not b: slot b − 1 vacant; else 2. Then 5 where b = 0 and used = lent
unfoldable pub take_number : ℕ → List ℕ → Header → InsertLinks → ℕ
take_number n l hd x =
    n
    ▸ (both (last_slot x) (astray l hd.used x.n), damaged)
    ▸ (both (last_slot x) (eqb x.n x.h), damaged)
    ▸ (both (not (eqb x.h x.b)) (astray l hd.used (x.b - 1)), damaged)
    ▸ (both (eqb x.b 0) (eqb hd.used (lent_of l)), full)

unfoldable pub insert_number : List ℕ → List ℕ → Header → List ℕ → InsertLinks → ℕ
insert_number l r hd side x = take_number (run_number (side_entry_number l r hd (length side) row_words) l hd x) l hd x

-- b = 0: slot used gets version 1, zero links and the row, and used grows by 1
unfoldable pub take_new : List ℕ → List ℕ → Header → List ℕ → Outcome
take_new l r hd side =
    plain (keyed (record { index = hd.used; version = 1 })) (grown hd) (new_slot l hd.used 1) (set_row r hd.used side)

-- slot b gets its version with the lowest bit set and the row; its links stay
unfoldable pub take_slot : List ℕ → List ℕ → Header → List ℕ → ℕ → ℕ → Outcome
take_slot l r hd side b v =
    plain (keyed (record { index = b; version = v })) (one_more hd) (set_version l b v) (set_row r b side)

-- h = b, not 0: next(0) becomes n, prev(n) becomes 0
unfoldable pub take_last : List ℕ → ℕ → List ℕ
take_last l n = set_prev (set_next l 0 n) n 0

-- otherwise: other_end(b − 1) becomes h and other_end(h) becomes b − 1
unfoldable pub take_back : List ℕ → ℕ → ℕ → List ℕ
take_back l h b = set_other_end (set_other_end l (b - 1) h) h (b - 1)

-- the run from h to b without b
unfoldable pub shortened : List ℕ → InsertLinks → List ℕ
shortened l x = pick (eqb x.h x.b) (take_last l x.n) (take_back l x.h x.b)

unfoldable pub insert_step : List ℕ → List ℕ → Header → List ℕ → InsertLinks → Outcome
insert_step l r hd side x =
    pick (eqb x.b 0)
    (take_new l r hd side)
    (take_slot (shortened l x) r hd side x.b (with_bit (version_at l hd.used x.b)))

unfoldable pub insert_by : List ℕ → List ℕ → Header → List ℕ → InsertLinks → Outcome
insert_by l r hd side x = unless l r hd (insert_number l r hd side x) (insert_step l r hd side x)

unfoldable pub insert_rule : List ℕ → List ℕ → Header → List ℕ → Outcome
insert_rule l r hd side = insert_by l r hd side (insert_links l hd.used)
