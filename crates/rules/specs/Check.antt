-- The soundness check, which hop.rs does not have: a test of Sound that can be carried out, in passes over the slots below used
-- and one along the chain.
use Rattle.std.specs.Prelude.{ℕ, zero, suc, List, Bool, false, not, eqb}
use Rattle.rules.specs.Choice.{pick, both, either, all_below}
use Rattle.rules.specs.Words.{version_at, next_at, prev_at, other_end_at, is_even}
use Rattle.rules.specs.Values.{Outcome, plain, done, unless}
use Rattle.rules.specs.Refusals.{◌▸◌, damaged, entry_number}
use Rattle.rules.specs.Runs.{is_front, is_back, front_of, run_count, odd_count}
use Rattle.rules.specs.declared.Header.{Header}

-- where slot i is a run's back, it and the run's front lead to each other
abbrev pub meet_at : List ℕ → ℕ → ℕ → ℕ → Bool
meet_at l used front i =
    either (not (is_back (version_at l used) used i)) (both (eqb (other_end_at l used front) i) (eqb (other_end_at l used i) front))

-- at each run's front other_end is its back, and at its back other_end is its front
unfoldable pub ends_test : List ℕ → ℕ → Bool
ends_test l used = all_below used (λ i. meet_at l used (front_of (version_at l used) used i) i)

-- from slot x the chain may go on to slot y: a front, whose prev undoes the step
abbrev pub may_follow : List ℕ → ℕ → ℕ → ℕ → Bool
may_follow l used x y = both (is_front (version_at l used) used y) (eqb (prev_at l used y) x)

-- from slot x next comes to 0 in n steps and no sooner, over fronts alone, and prev undoes each step
unfoldable pub circle_test : List ℕ → ℕ → ℕ → ℕ → Bool
circle_test l used zero x = false
circle_test l used (suc n) x =
    let y = next_at l used x in
    both (may_follow l used x y)
    (pick (eqb y 0) (eqb n 0) (circle_test l used n y))

unfoldable pub sound_test : List ℕ → Header → Bool
sound_test l hd =
    both (is_even (version_at l hd.used 0))
    (both (eqb hd.live (odd_count (version_at l hd.used) hd.used))
    (both (ends_test l hd.used) (circle_test l hd.used (run_count (version_at l hd.used) hd.used) 0)))

-- the whole soundness check, after the number so far
unfoldable pub sound_number : ℕ → List ℕ → Header → ℕ
sound_number n l hd = n ▸ (not (sound_test l hd), damaged)

-- soundness check: accepts exactly the sound tables, else 2
unfoldable pub check_rule : List ℕ → List ℕ → Header → Outcome
check_rule l r hd = unless l r hd (sound_number (entry_number l r hd) l hd) (plain done hd l r)
