-- The machine's own step for every call, refusals of a side buffer (1), of a key (3, 4), 5 and 6 included. It never gives 2.
-- Those on the whole table are in WholeTable.
use Rattle.std.specs.Prelude.{ℕ, ◌+◌, List, [], not, length, leb, eqb}
use Rattle.rules.specs.Choice.{pick, both}
use Rattle.rules.specs.Words.{row_words, zero_row, is_even, with_bit, rise, occupied_by}
use Rattle.rules.specs.Values.{Values, keyed, visited, done, refused}
use Rattle.rules.specs.Refusals.{◌▸◌, passes, even_version, not_live, full, stale_cursor, side_number, live_by}
use Rattle.rules.specs.Runs.{past_front}
use Rattle.rules.specs.declared.Key.{Key}
use Rattle.runs.specs.Points.{put}
use Rattle.runs.specs.Machine.{Machine, live_of, key_of, back_of, first, later, fronts_after}

-- what a step leaves: the answer, the row by value (zero where there is none), and the machine
pub record Step : Type 0 where
  pub answer : Values
  pub row : List ℕ
  pub machine : Machine

-- an answer with no row, and the machine that is left
abbrev pub stays : Machine → Values → Step
stays m a = record { answer = a; row = zero_row; machine = m }

-- where the number is 0 the step, else the refusal
abbrev pub step_unless : Machine → ℕ → Step → Step
step_unless m n s = pick (eqb n 0) s (stays m (refused n))

-- insert: the row goes to the first run's back; where that is slot 0, to a new slot, and there is none when used = lent
abbrev pub place : Machine → ℕ
place m = back_of m.versions m.used (first m.fronts)

unfoldable pub insert_number_on : Machine → List ℕ → ℕ
insert_number_on m side =
    side_number passes (length side) row_words ▸ (both (eqb (place m) 0) (eqb m.used m.lent), full)

unfoldable pub grown_by : Machine → List ℕ → Step
grown_by m side =
    record {
      answer = keyed (record { index = m.used; version = 1 });
      row = zero_row;
      machine =
          record {
            versions = put m.versions m.used 1;
            rows = put m.rows m.used side;
            used = m.used + 1;
            fronts = m.fronts;
            lent = m.lent;
          };
    }

unfoldable pub filled_by : Machine → List ℕ → ℕ → Step
filled_by m side b =
    record {
      answer = keyed (record { index = b; version = with_bit (m.versions b) });
      row = zero_row;
      machine =
          record {
            versions = put m.versions b (with_bit (m.versions b));
            rows = put m.rows b side;
            used = m.used;
            fronts = pick (eqb (first m.fronts) b) (later m.fronts) m.fronts;
            lent = m.lent;
          };
    }

unfoldable pub insert_on : Machine → List ℕ → Step
insert_on m side =
    step_unless m (insert_number_on m side) (pick (eqb (place m) 0) (grown_by m side) (filled_by m side (place m)))

-- the number of a key, after the number so far
unfoldable pub key_number_on : ℕ → Machine → Key → ℕ
key_number_on n m k =
    n
    ▸ (is_even k.version, even_version)
    ▸ (not (live_by m.versions m.used k), not_live)

-- slot i falls vacant
unfoldable pub freed_on : Machine → ℕ → Machine
freed_on m i =
    record {
      versions = put m.versions i (rise (m.versions i));
      rows = put m.rows i zero_row;
      used = m.used;
      fronts = fronts_after m.versions m.used m.fronts i;
      lent = m.lent;
    }

-- remove, and the removal of slot i under its key
abbrev pub taken_out : Machine → Key → Step
taken_out m k = record { answer = keyed k; row = m.rows k.index; machine = freed_on m k.index }

unfoldable pub remove_on : Machine → Key → Step
remove_on m k = step_unless m (key_number_on passes m k) (taken_out m k)

-- look: the words of the row of a live key, else none
unfoldable pub look_on : Machine → Key → List ℕ
look_on m k = pick (eqb (key_number_on passes m k) 0) (m.rows k.index) []

-- a row written through its live key; replace
unfoldable pub written : Machine → ℕ → List ℕ → Machine
written m i side =
    record {
      versions = m.versions;
      rows = put m.rows i side;
      used = m.used;
      fronts = m.fronts;
      lent = m.lent;
    }

unfoldable pub replace_on : Machine → Key → List ℕ → Step
replace_on m k side =
    step_unless m (key_number_on (side_number passes (length side) row_words) m k) (stays (written m k.index side) done)

-- the hop step
abbrev pub visit_on : Machine → ℕ → Values
visit_on m i = visited (key_of m i) (i + 1)

unfoldable pub hop_answer_on : Machine → ℕ → Values
hop_answer_on m c =
    let q = back_of m.versions m.used c + 1 in
    pick (leb m.used c) done
    (pick (occupied_by m.versions m.used c) (visit_on m c)
    (pick (past_front m.versions m.used c) (refused stale_cursor)
    (pick (eqb q m.used) done (visit_on m q))))

abbrev pub hop_on : Machine → ℕ → Step
hop_on m c = stays m (hop_answer_on m c)

-- the drain step: the lowest live slot is the one after slot 0's run
abbrev pub lowest : Machine → ℕ
lowest m = back_of m.versions m.used 0 + 1

unfoldable pub drain_on : Machine → Step
drain_on m = pick (eqb (live_of m) 0) (stays m done) (taken_out m (key_of m (lowest m)))
