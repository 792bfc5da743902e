-- The theorems, call by call: on a sound table each rule is the machine's step and leaves a sound table; which numbers it can give,
-- never 2 among them; and two tables that are one machine answer alike and stay one machine, whatever stands inside their runs and
-- in the links of occupied slots. Assumes nothing.
use mathlib.Core.Path.{◌≡◌, sym, ◌∙◌, subst, fun_ext}
use mathlib.Core.List.{List, [], ◌∷◌}
use mathlib.Core.Bool.{Bool}
use Prim.Native.Nat.{ℕ}
use lib.ListN.{length}
use Rattle.rules.specs.Choice.{pick}
use Rattle.rules.specs.Words.{version_at, next_at, prev_at, row_at}
use Rattle.rules.specs.Values.{Values, Outcome}
use Rattle.rules.specs.Refusals.{shape, even_version, not_live, full, stale_cursor, shape_number, side_number}
use Rattle.rules.specs.Given.{Only}
use Rattle.rules.specs.Runs.{Front}
use Rattle.rules.specs.Sound.{Sound}
use Rattle.rules.specs.Start.{room_rule}
use Rattle.rules.specs.Access.{key_number, look_rule, replace_rule}
use Rattle.rules.specs.Insert.{insert_rule}
use Rattle.rules.specs.Remove.{remove_rule}
use Rattle.rules.specs.Hop.{hop_rule}
use Rattle.rules.specs.Drain.{drain_rule}
use Rattle.rules.specs.Check.{check_rule}
use Rattle.rules.specs.Clear.{clear_rule}
use Rattle.rules.specs.Retain.{retain_rule}
use Rattle.rules.specs.declared.Header.{Header}
use Rattle.rules.specs.declared.Key.{Key}
use Rattle.rules.proofs.Choice.{by_pick}
use Rattle.rules.proofs.Given.{chain_only}
use Rattle.runs.specs.Machine.{Machine, machine_of}
use Rattle.runs.specs.Steps.{Step, key_number_on, insert_number_on, grown_by, filled_by, insert_on, remove_on, replace_on, hop_answer_on, hop_on, drain_on}
use Rattle.runs.specs.WholeTable.{clear_on, retain_on, check_on, room_on}
use Rattle.runs.specs.Tables.{Shows, Simulates, GivesOnly, SameAnswer}
use Rattle.runs.proofs.Segments.{seg_agree}
use Rattle.runs.proofs.Sound.{linked, off_zero}
use Rattle.runs.proofs.Shown.{header_is}
use Rattle.runs.proofs.Inserted.{insert_does}
use Rattle.runs.proofs.Removed.{key_number_is, remove_does}
use Rattle.runs.proofs.Accessed.{look_is, replace_does, room_does}
use Rattle.runs.proofs.Hopped.{hop_does}
use Rattle.runs.proofs.Drained.{drain_does}
use Rattle.runs.proofs.Chosen.{checked_shows, check_does, clear_does, retain_does}

-- each call is the machine's step; start and rebuild are in Begun, looks in Accessed
pub insert_simulates : (side : List ℕ) → Simulates (λ l r hd. insert_rule l r hd side) (λ m. insert_on m side)
insert_simulates side l r hd m s = insert_does l r hd m s side

pub remove_simulates : (k : Key) → Simulates (λ l r hd. remove_rule l r hd k) (λ m. remove_on m k)
remove_simulates k l r hd m s = remove_does l r hd m s k

pub replace_simulates : (k : Key) (side : List ℕ) → Simulates (λ l r hd. replace_rule l r hd k side) (λ m. replace_on m k side)
replace_simulates k side l r hd m s = replace_does l r hd m s k side

pub hop_simulates : (c : ℕ) → Simulates (λ l r hd. hop_rule l r hd c) (λ m. hop_on m c)
hop_simulates c l r hd m s = hop_does l r hd m s c

pub drain_simulates : Simulates drain_rule drain_on
drain_simulates = drain_does

pub clear_simulates : Simulates clear_rule clear_on
clear_simulates = clear_does

pub retain_simulates : (bytes : List ℕ) → Simulates (λ l r hd. retain_rule l r hd bytes) (λ m. retain_on m bytes)
retain_simulates bytes l r hd m s = retain_does l r hd m s bytes

pub check_simulates : Simulates check_rule check_on
check_simulates = check_does

pub room_simulates : Simulates room_rule room_on
room_simulates = room_does

-- one machine: one answer, one machine after it
pub one_answer : (call : List ℕ → List ℕ → Header → Outcome) (step : Machine → Step) → Simulates call step →
    (l r l' r' : List ℕ) (hd hd' : Header) (m : Machine) → Shows l r hd m → Shows l' r' hd' m → SameAnswer (call l r hd) (call l' r' hd') (step m).machine
one_answer call step sim l r l' r' hd hd' m s t =
    let d = sim l r hd m s in
    let e = sim l' r' hd' m t in
    record {
      answer = d.answer ∙ sym e.answer;
      row = d.row ∙ sym e.row;
      header = header_is _ _ _ _ d.shows ∙ sym (header_is _ _ _ _ e.shows);
      shows = d.shows;
      shows' = e.shows;
    }

pub one_key_number : (l r l' r' : List ℕ) (hd hd' : Header) (m : Machine) → Shows l r hd m → Shows l' r' hd' m → (k : Key) →
    key_number l r hd k ≡ key_number l' r' hd' k
one_key_number l r l' r' hd hd' m s t k = key_number_is l r hd m s k ∙ sym (key_number_is l' r' hd' m t k)

pub one_look : (l r l' r' : List ℕ) (hd hd' : Header) (m : Machine) → Shows l r hd m → Shows l' r' hd' m → (k : Key) →
    look_rule l r hd k ≡ look_rule l' r' hd' k
one_look l r l' r' hd hd' m s t k = look_is l r hd m s k ∙ sym (look_is l' r' hd' m t k)

-- words inside a run and link words of occupied slots mean nothing: sound tables with the same versions and rows, and the same next
-- at the fronts of runs, are one machine
module _ (l r l' r' : List ℕ) (hd : Header) (s : Sound l hd) (t : Sound l' hd) (lengths : length l ≡ length l')
    (versions : (i : ℕ) → version_at l hd.used i ≡ version_at l' hd.used i)
    (rows : (i : ℕ) → row_at r hd.used i ≡ row_at r' hd.used i)
    (nexts : (i : ℕ) → Front (version_at l hd.used) hd.used i → next_at l hd.used i ≡ next_at l' hd.used i) where
  pub same_machine : machine_of l r hd s.circle.after ≡ machine_of l' r' hd t.circle.after
  same_machine =
      let L = linked l hd s in
      let M = linked l' hd t in
      let chains =
      seg_agree (next_at l hd.used) (prev_at l hd.used) (next_at l' hd.used) (prev_at l' hd.used) 0 s.circle.after t.circle.after 0
      L.seg M.seg (off_zero _ _ _ L.fronts) (off_zero _ _ _ M.fronts) (λ k h. nexts k (s.circle.only k h)) in
      cc (lengths, fun_ext versions, fun_ext rows, chains)

  pub means_nothing : shape_number l r hd ≡ 0 → shape_number l' r' hd ≡ 0 →
      (call : List ℕ → List ℕ → Header → Outcome) (step : Machine → Step) → Simulates call step →
      SameAnswer (call l r hd) (call l' r' hd) (step (machine_of l r hd s.circle.after)).machine
  means_nothing e e' call step sim =
      let m = machine_of l r hd s.circle.after in
      one_answer call step sim l r l' r' hd hd m (checked_shows l r hd e s)
      (subst (Shows l' r' hd) (sym same_machine) (checked_shows l' r' hd e' t))

-- the numbers that each call can give there: what the machine's step gives. A choice of steps gives what either gives
step_only : (ks : List ℕ) (t : Bool) (s s' : Step) → Only ks s.answer.number → Only ks s'.answer.number → Only ks (pick t s s').answer.number
step_only ks t s s' h j = by_pick (λ (x : Step). Only ks x.answer.number) t s s' (λ _. h) (λ _. j)

only : (ks : List ℕ) (call : List ℕ → List ℕ → Header → Outcome) (step : Machine → Step) → Simulates call step →
    ((m : Machine) → Only ks (step m).answer.number) → GivesOnly ks call
only ks call step sim h l r hd e s =
    let m = machine_of l r hd s.circle.after in
    subst (λ (v : Values). Only ks v.number) (sym (sim l r hd m (checked_shows l r hd e s)).answer) (h m)

pub insert_only : (side : List ℕ) → GivesOnly (shape ∷ full ∷ []) (λ l r hd. insert_rule l r hd side)
unfolding insert_on insert_number_on side_number grown_by filled_by
insert_only side = only _ _ _ (insert_simulates side) (λ m. search (step_only, chain_only))

pub remove_only : (k : Key) → GivesOnly (even_version ∷ not_live ∷ []) (λ l r hd. remove_rule l r hd k)
unfolding remove_on key_number_on
remove_only k = only _ _ _ (remove_simulates k) (λ m. search (step_only, chain_only))

pub replace_only : (k : Key) (side : List ℕ) → GivesOnly (shape ∷ even_version ∷ not_live ∷ []) (λ l r hd. replace_rule l r hd k side)
unfolding replace_on key_number_on side_number
replace_only k side = only _ _ _ (replace_simulates k side) (λ m. search (step_only, chain_only) depth 7)

pub hop_only : (c : ℕ) → GivesOnly (stale_cursor ∷ []) (λ l r hd. hop_rule l r hd c)
unfolding hop_answer_on
hop_only c = only _ _ _ (hop_simulates c) (λ m. search (by_pick (λ (v : Values). Only (stale_cursor ∷ []) v.number)))

pub drain_only : GivesOnly [] drain_rule
unfolding drain_on
drain_only = only _ _ _ drain_simulates (λ m. search step_only)

pub clear_only : GivesOnly [] clear_rule
unfolding clear_on
clear_only = only _ _ _ clear_simulates (λ m. search)

pub retain_only : (bytes : List ℕ) → GivesOnly (shape ∷ []) (λ l r hd. retain_rule l r hd bytes)
unfolding retain_on side_number
retain_only bytes = only _ _ _ (retain_simulates bytes) (λ m. search (step_only, chain_only))

pub check_only : GivesOnly [] check_rule
check_only = only _ _ _ check_simulates (λ m. search)

pub room_only : GivesOnly [] room_rule
room_only = only _ _ _ room_simulates (λ m. search)

pub key_number_only : (l r : List ℕ) (hd : Header) → shape_number l r hd ≡ 0 → Sound l hd → (k : Key) → Only (even_version ∷ not_live ∷ []) (key_number l r hd k)
unfolding key_number_on
key_number_only l r hd e s k =
    let m = machine_of l r hd s.circle.after in
    subst (Only (even_version ∷ not_live ∷ [])) (sym (key_number_is l r hd m (checked_shows l r hd e s) k)) (search chain_only)
