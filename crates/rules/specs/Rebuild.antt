-- Rebuild: its tests, then the rows of vacant slots are cleared, then relinking. hop.rs 1379-1404 (a slot) and 1417-1472
use Rattle.std.specs.Prelude.{ℕ, zero, suc, ◌%◌, List, Bool, not, length, get_or, ltb, eqb}
use Rattle.rules.specs.Choice.{pick, either, some_below}
use Rattle.rules.specs.Words.{lent_of, version_at, set_next, set_prev, set_other_end, zero_links, set_row, zero_row, is_odd, vacant_at}
use Rattle.rules.specs.Headers.{rebuilt}
use Rattle.rules.specs.Values.{Outcome, plain, done, unless}
use Rattle.rules.specs.Refusals.{◌▸◌, shape, wrong_presence, zero_occupied, lent_number}
use Rattle.rules.specs.Runs.{is_front, is_back, odd_count}
use Rattle.rules.specs.declared.Header.{Header}

-- a presence byte that is not 0 or 1, or not equal to the version's lowest bit
abbrev pub wrong_bit : ℕ → ℕ → Bool
wrong_bit byte v = either (ltb 1 byte) (not (eqb byte (v % 2)))

-- the byte of slot i, of n, is wrong
unfoldable pub wrong_byte : List ℕ → ℕ → List ℕ → ℕ → Bool
wrong_byte l n bytes i = wrong_bit (get_or bytes i 0) (version_at l n i)

-- n from 1 to lent, else 1; 7 where any slot's byte is wrong; 8 where slot 0 is odd
unfoldable pub rebuild_number : List ℕ → List ℕ → List ℕ → ℕ
rebuild_number l r bytes =
    lent_number (length l) (length r)
    ▸ (eqb (length bytes) 0, shape)
    ▸ (ltb (lent_of l) (length bytes), shape)
    ▸ (some_below (length bytes) (wrong_byte l (length bytes) bytes), wrong_presence)
    ▸ (is_odd (version_at l (length bytes) 0), zero_occupied)

-- clearing: the rows of the vacant slots below k, of n, become zero
unfoldable pub cleared_rows : List ℕ → ℕ → ℕ → List ℕ → List ℕ
cleared_rows l n zero r = r
cleared_rows l n (suc k) r =
    let rest = cleared_rows l n k r in
    pick (vacant_at l n k) (set_row rest k zero_row) rest

-- next, prev and other_end become zero in the slots below n
unfoldable pub unlinked : ℕ → List ℕ → List ℕ
unlinked zero l = l
unlinked (suc n) l = zero_links (unlinked n l) n

-- the links while runs are chained: the front of the run at hand, and that of the last run chained
pub record Chain : Type 0 where
  pub links : List ℕ
  pub front : ℕ
  pub last : ℕ

-- the run from f to b is chained after the run whose front is p
unfoldable pub chain_run : List ℕ → ℕ → ℕ → ℕ → List ℕ
chain_run l p f b = set_other_end (set_prev (set_next (set_next (set_other_end l b f) p f) f 0) f p) f b

-- slot i, of n: a front is kept in mind, and at a back its run is chained
unfoldable pub chain_slot : ℕ → ℕ → Chain → Chain
chain_slot n i c =
    let f = pick (is_front (version_at c.links n) n i) i c.front in
    record {
      links = pick (is_back (version_at c.links n) n i) (chain_run c.links c.last f i) c.links;
      front = f;
      last = pick (is_back (version_at c.links n) n i) f c.last;
    }

-- the slots below k, of n, in rising order
unfoldable pub chain_slots : ℕ → ℕ → Chain → Chain
chain_slots n zero c = c
chain_slots n (suc k) c = chain_slot n k (chain_slots n k c)

-- prev(0) becomes the last run's front, which hop.rs leaves out: where we part from the Rust
abbrev pub closed : Chain → List ℕ
closed c = set_prev c.links 0 c.last

-- relinking: the versions and n give next, prev, other_end and the live count; used becomes n, live the odd count
pub record Relinked : Type 0 where
  pub links : List ℕ
  pub header : Header

unfoldable pub relinked : List ℕ → ℕ → Relinked
relinked l n =
    record {
      links = closed (chain_slots n n (record { links = unlinked n l; front = 0; last = 0 }));
      header = rebuilt n (odd_count (version_at l n) n);
    }

abbrev pub rebuild_step : List ℕ → List ℕ → ℕ → Outcome
rebuild_step l r n = plain done (relinked l n).header (relinked l n).links (cleared_rows l n n r)

unfoldable pub rebuild_rule : List ℕ → List ℕ → Header → List ℕ → Outcome
rebuild_rule l r hd bytes = unless l r hd (rebuild_number l r bytes) (rebuild_step l r (length bytes))
