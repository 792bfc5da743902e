-- Runs, as what they are and as tests that can be carried out. A run is a maximal stretch of vacant slots below used.
-- They are told by the versions alone, which stand here as a function of the slot.
use Rattle.std.specs.Prelude.{ℕ, zero, suc, ◌+◌, ◌-◌, ◌≤◌, ◌<◌, ◌%◌, Bool, not, ◌≡◌, ltb}
use Rattle.rules.specs.Choice.{pick, both, count_below}
use Rattle.rules.specs.Words.{is_odd, vacant_by}

-- slot i is below used and vacant, and the slot before it, if there is one, is occupied
pub record Front (v : ℕ → ℕ) (used i : ℕ) : Type 0 where
  pub below : i < used
  pub vacant : v i % 2 ≡ 0
  pub starts : (j : ℕ) → suc j ≡ i → v j % 2 ≡ 1

-- the run from f to b
pub record Run (v : ℕ → ℕ) (used f b : ℕ) : Type 0 where
  pub front : Front v used f
  pub ordered : f ≤ b
  pub below : b < used
  pub vacant : (i : ℕ) → f ≤ i → i ≤ b → v i % 2 ≡ 0
  pub stops : suc b < used → v (suc b) % 2 ≡ 1

-- slot i vacant and i > 0 with i − 1 vacant too
unfoldable pub past_front : (ℕ → ℕ) → ℕ → ℕ → Bool
past_front v used i = both (vacant_by v used i) (both (ltb 0 i) (vacant_by v used (i - 1)))

-- slot i is a run's front; a run's back
unfoldable pub is_front : (ℕ → ℕ) → ℕ → ℕ → Bool
is_front v used i = both (vacant_by v used i) (not (past_front v used i))

unfoldable pub is_back : (ℕ → ℕ) → ℕ → ℕ → Bool
is_back v used i = both (vacant_by v used i) (not (vacant_by v used (i + 1)))

-- the front of the run that the vacant slot i is in
unfoldable pub front_of : (ℕ → ℕ) → ℕ → ℕ → ℕ
front_of v used zero = 0
front_of v used (suc i) = pick (vacant_by v used i) (front_of v used i) (suc i)

-- how many runs there are; how many versions below used are odd
abbrev pub run_count : (ℕ → ℕ) → ℕ → ℕ
run_count v used = count_below used (is_front v used)

abbrev pub odd_count : (ℕ → ℕ) → ℕ → ℕ
odd_count v used = count_below used (λ i. is_odd (v i))
