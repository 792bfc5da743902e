-- Each call, on a table that is a machine, comes down to its events: one lemma a call. Assumes nothing.
use mathlib.Core.Path.{◌≡◌, refl, sym, ap, ◌∙◌, subst}
use mathlib.Core.Logic.{◌≢◌}
use mathlib.Core.List.{List}
use mathlib.Core.Bool.{Bool}
use Prim.Native.Nat.{ℕ}
use native.Mathlib.Decide.{ℕ_discrete}
use native.Mathlib.Omega.{arith}
use lib.ListN.{length}
use lib.Dec.{eqb}
use borrow.Author.Tests.{ne_eqb, eqb-true, eqb-false}
use Rattle.rules.specs.Words.{row_words, with_bit}
use Rattle.rules.specs.Values.{Values, of_number, done, refused}
use Rattle.rules.specs.Refusals.{passes, side_number}
use Rattle.rules.specs.Access.{key_number}
use Rattle.rules.specs.Retain.{struck_by}
use Rattle.rules.specs.declared.Key.{Key}
use Rattle.rules.proofs.Choice.{by_pick}
use Rattle.runs.specs.Machine.{Machine, live_of, key_of}
use Rattle.runs.specs.Steps.{Step, stays, step_unless, place, grown_by, filled_by, insert_number_on, insert_on, key_number_on, taken_out, remove_on, look_on, written, replace_on, hop_on, lowest, drain_on}
use Rattle.runs.specs.WholeTable.{remove_chosen_on, all, clear_on, retain_on, check_on, room_on}
use Rattle.runs.specs.Tables.{Shows, Does}
use Rattle.runs.proofs.Counts.{odd_but_zero}
use Rattle.runs.proofs.Fronts.{Fronts}
use Rattle.runs.proofs.Sound.{linked}
use Rattle.runs.proofs.Inserted.{insert_does}
use Rattle.runs.proofs.Removed.{key_live, key_number_is, remove_does}
use Rattle.runs.proofs.Hopped.{hop_does}
use Rattle.runs.proofs.DrainMachine.{Headed, lowest_live}
use Rattle.runs.proofs.Drained.{headed, drain_does}
use Rattle.runs.proofs.Chosen.{chosen_does, check_does, clear_does, retain_does}
use Rattle.runs.proofs.Accessed.{room_does, written_shows, replace_does}
use Rattle.runs.proofs.Full.{place_run, none_vacant}
use Rattle.history.specs.Calls.{Row, Beginning, Question, number, look, hop, check, room, Call, begin, ask, insert, remove, write, replace, drain, clear, retain, write_rule}
use Rattle.history.specs.Histories.{Table, outcome, answer, next, GoesOn}
use Rattle.history.specs.Bystander.{struck, noted}
use Rattle.history.specs.Events.{Event, removed, wrote, all_removed, chosen_removed, happening}
use Rattle.history.proofs.Live.{Live, live_is, passes_live}
use Rattle.history.proofs.Paths.{Hands, Writes}
use Rattle.history.proofs.Becoming.{Becomes, nothing, one_event, freed_removes, all_chosen}
use Rattle.history.proofs.Parts.{written_live, written_none}
use Rattle.history.proofs.AnyWords.{told}

abbrev pub Stands : Table → Machine → Type 0
Stands t m = Shows t.links t.rows t.header m

-- what the call leaves and what happened, told by its answer
pub record Happened (t : Table) (m : Machine) (c : Call) : Type 0 where
  pub machine : Machine
  pub stands : Stands (next t c) machine
  pub becomes : Becomes m (happening t c (answer t c)) (noted c (answer t c) (look_on m)) machine

-- a call that goes on with the history comes down to its events
abbrev pub Reduces : Table → Machine → Call → Type 0
Reduces t m c = GoesOn t c → Happened t m c

module _ (t : Table) (m : Machine) (s : Shows t.links t.rows t.header m) where
  z : Headed m
  z = headed t.links t.rows t.header m s

  -- what a step's answer tells is what becomes of the machine
  abbrev Tells : Call → Step → Type 0
  Tells c x = Becomes m (happening t c x.answer) (noted c x.answer (look_on m)) x.machine

  reduced : (c : Call) (x : Step) → Does (outcome t c) x → Tells c x → Reduces t m c
  reduced c x d b _ =
      record {
        machine = x.machine;
        stands = d.shows;
        becomes = subst (λ (a : Values). Becomes m (happening t c a) (noted c a (look_on m)) x.machine) (sym d.answer) b;
      }

  fronts : Fronts m.versions m.used m.fronts
  fronts = subst (λ (x : Machine). Fronts x.versions x.used x.fronts) s.same (linked t.links t.header s.sound).fronts

  -- insert: a new slot only where no other is vacant, else the vacant slot at the first run's back
  grown_hands : (side : List ℕ) → place m ≡ 0 → Hands m (record { index = m.used; version = 1 }) side (grown_by m side).machine
  unfolding grown_by
  grown_hands side e =
      record {
        low = omega arith;
        past_zero = z.positive;
        odd = refl;
        vacant = λ q. absurd (omega arith);
        version = λ q. absurd (omega arith);
        needed = λ _. odd_but_zero m.versions m.used z.positive z.even (none_vacant m.versions m.used m.fronts fronts e);
        versions = refl;
        rows = refl;
        used = omega arith;
      }

  filled_hands : (side : List ℕ) → place m ≢ 0 →
      Hands m (record { index = place m; version = with_bit (m.versions (place m)) }) side (filled_by m side (place m)).machine
  unfolding filled_by
  filled_hands side n =
      let run = place_run m.versions m.used m.fronts fronts in
      let even = run.vacant (place m) run.ordered (omega arith) in
      record {
        low = omega (arith, run.below);
        past_zero = omega (arith, n);
        odd = omega arith;
        vacant = λ q. even;
        version = λ q. refl;
        needed = λ e. absurd (omega (arith, run.below));
        versions = refl;
        rows = refl;
        used = omega (arith, run.below);
      }

  -- a call that its number turns down, where nothing happens, or whose step happens
  unless_tells : (c : Call) (n : ℕ) (x : Step) → Tells c (stays m (refused n)) → (n ≡ 0 → Tells c x) → Tells c (step_unless m n x)
  unless_tells c n x still h = by_pick (Tells c) (eqb n 0) x (stays m (refused n)) (λ e. h (eqb-true n 0 e)) (λ _. still)

  pub insert_reduces : (side : List ℕ) → Reduces t m (insert side)
  unfolding insert_on grown_by filled_by
  insert_reduces side =
      reduced (insert side) (insert_on m side) (insert_does _ _ _ m s side)
      (unless_tells (insert side) (insert_number_on m side) _ (nothing m z)
      (λ _. by_pick (Tells (insert side)) (eqb (place m) 0) (grown_by m side) (filled_by m side (place m))
      (λ e. one_event m z _ _ (grown_hands side (eqb-true _ _ e)))
      (λ e. one_event m z _ _ (filled_hands side (eqb-false _ _ e)))))

  pub remove_reduces : (k : Key) → Reduces t m (remove k)
  unfolding remove_on
  remove_reduces k =
      reduced (remove k) (remove_on m k) (remove_does _ _ _ m s k)
      (unless_tells (remove k) (key_number_on passes m k) (taken_out m k) (nothing m z)
      (λ e. one_event m z (removed k) _ (freed_removes m k (passes_live m k e))))

  -- a row written through its live key, in place and by replace
  written_writes : (k : Key) (row : List ℕ) → Live m k → Writes m k row (written m k.index row)
  unfolding written
  written_writes k row a = record { live = a; versions = refl; rows = refl; used = refl }

  pub write_reduces : (k : Key) (row : Row) → Reduces t m (write k row)
  write_reduces k row _ = go (ℕ_discrete (key_number t.links t.rows t.header k) 0)
    where
      -- the rows that are left, and what the answer tells
      leaves : (r : List ℕ) (x : Machine) → (write_rule t.links t.rows t.header k row).rows ≡ r → Shows t.links r t.header x →
          (a : Values) → answer t (write k row) ≡ a → Becomes m (happening t (write k row) a) (noted (write k row) a (look_on m)) x → Happened t m (write k row)
      leaves r x e sh a f b =
          record {
            machine = x;
            stands = subst (λ (y : List ℕ). Shows t.links y t.header x) (sym e) sh;
            becomes = subst (λ (v : Values). Becomes m (happening t (write k row) v) (noted (write k row) v (look_on m)) x) (sym f) b;
          }

      go : Dec (key_number t.links t.rows t.header k ≡ 0) → Happened t m (write k row)
      go (yes e) =
          let alive = passes_live m k (sym (key_number_is _ _ _ m s k) ∙ e) in
          leaves _ _ (written_live _ _ _ k row e) (written_shows _ _ _ m s k.index row.words alive.low row.eight) done (ap of_number e)
          (one_event m z (wrote k row.words) _ (written_writes k row.words alive))
      go (no n) = leaves _ m (written_none _ _ _ k row n) s (refused (key_number t.links t.rows t.header k)) (simp (ne_eqb _ 0 n)) (nothing m z)

  pub replace_reduces : (k : Key) (side : List ℕ) → Reduces t m (replace k side)
  unfolding replace_on
  replace_reduces k side =
      reduced (replace k side) (replace_on m k side) (replace_does _ _ _ m s k side)
      (unless_tells (replace k side) (key_number_on (side_number passes (length side) row_words) m k) _ (nothing m z)
      (λ e. one_event m z (wrote k side) _ (written_writes k side (live_is m k (key_live _ m k e).1))))

  -- the drain step removes the lowest live slot
  pub lowest_key : live_of m ≢ 0 → Live m (key_of m (lowest m))
  lowest_key some = let low = lowest_live m z (omega (arith, some)) in record { low = low.0; odd = low.1; same = refl }

  pub drain_reduces : Reduces t m drain
  unfolding drain_on
  drain_reduces =
      reduced drain (drain_on m) (drain_does _ _ _ m s)
      (by_pick (Tells drain) (eqb (live_of m) 0) (stays m done) (taken_out m (key_of m (lowest m))) (λ _. nothing m z)
      (λ e. one_event m z (removed (key_of m (lowest m))) _ (freed_removes m (key_of m (lowest m)) (lowest_key (eqb-false _ _ e)))))

  -- clear and retain remove the chosen
  chosen_tells : (chosen : ℕ → Bool) →
      Becomes m (chosen_removed chosen t) (struck (λ k. chosen k.index) (look_on m)) (remove_chosen_on chosen m.used m).machine
  chosen_tells chosen =
      subst (λ (es : List Event). Becomes m es (struck (λ k. chosen k.index) (look_on m)) (remove_chosen_on chosen m.used m).machine)
      (sym (ap (λ (x : Machine). all_removed chosen x.versions x.used x.used) s.same))
      (all_chosen chosen m (headed _ _ _ _ (chosen_does chosen _ _ _ m s m.used).shows))

  pub clear_reduces : Reduces t m clear
  unfolding clear_on
  clear_reduces = reduced clear (clear_on m) (clear_does _ _ _ m s) (chosen_tells all)

  pub retain_reduces : (bytes : List ℕ) → Reduces t m (retain bytes)
  unfolding retain_on
  retain_reduces bytes =
      reduced (retain bytes) (retain_on m bytes) (retain_does _ _ _ m s bytes)
      (unless_tells (retain bytes) (side_number passes (length bytes) m.used) _ (nothing m z) (λ _. chosen_tells (struck_by bytes)))

  -- where the table is left as it was, nothing happened
  unmoved : (c : Call) → next t c ≡ t → Becomes m (happening t c (answer t c)) (noted c (answer t c) (look_on m)) m → Happened t m c
  unmoved c e b = record { machine = m; stands = subst (λ (x : Table). Stands x m) (sym e) s; becomes = b }

  -- questions
  pub ask_reduces : (q : Question) → Reduces t m (ask q)
  ask_reduces (number k) = λ _. unmoved (ask (number k)) refl (nothing m z)
  ask_reduces (look k) = λ _. unmoved (ask (look k)) refl (nothing m z)
  ask_reduces (hop c) = reduced (ask (hop c)) (hop_on m c) (hop_does _ _ _ m s c) (nothing m z)
  ask_reduces check = reduced (ask check) (check_on m) (check_does _ _ _ m s) (nothing m z)
  ask_reduces room = reduced (ask room) (room_on m) (room_does _ _ _ m s) (nothing m z)

  -- a start or a rebuild goes on with the history only where it is refused
  pub begin_reduces : (b : Beginning) → Reduces t m (begin b)
  begin_reduces b g = unmoved (begin b) ((told t (begin b)).down g).unchanged (nothing m z)

-- any call
pub reduces : (t : Table) (m : Machine) → Stands t m → (c : Call) → Reduces t m c
reduces t m s (begin b) = begin_reduces t m s b
reduces t m s (ask q) = ask_reduces t m s q
reduces t m s (insert side) = insert_reduces t m s side
reduces t m s (remove k) = remove_reduces t m s k
reduces t m s (write k row) = write_reduces t m s k row
reduces t m s (replace k side) = replace_reduces t m s k side
reduces t m s drain = drain_reduces t m s
reduces t m s clear = clear_reduces t m s
reduces t m s (retain bytes) = retain_reduces t m s bytes
