-- A sound table: document 01's paragraph, clause by clause. The test of it is in Check.
use Rattle.std.specs.Prelude.{ℕ, ◌≤◌, ◌%◌, List, [], ◌∷◌, ◌≡◌}
use Rattle.rules.specs.Choice.{times}
use Rattle.rules.specs.Words.{version_at, next_at, prev_at, other_end_at}
use Rattle.rules.specs.Runs.{Front, Run, odd_count}
use Rattle.rules.specs.declared.Header.{Header}

-- slot 0 is even
pub record ZeroEven (l : List ℕ) (hd : Header) : Type 0 where
  pub even : version_at l hd.used 0 % 2 ≡ 0

-- live is the count of odd versions below used
pub record LiveCount (l : List ℕ) (hd : Header) : Type 0 where
  pub counted : hd.live ≡ odd_count (version_at l hd.used) hd.used

-- from slot a next goes over the slots of the list to slot b
abbrev pub Follows : List ℕ → ℕ → ℕ → List ℕ → ℕ → Type 0
Follows l used a [] b = next_at l used a ≡ b
Follows l used a (x ∷ xs) b = (next_at l used a ≡ x) × Follows l used x xs b

-- following next from slot 0 visits the front of every run once, and nothing else, and comes back to 0;
-- prev undoes next everywhere on that circle
pub record Circle (l : List ℕ) (hd : Header) : Type 0 where
  pub after : List ℕ
  pub follows : Follows l hd.used 0 after 0
  pub every : (i : ℕ) → Front (version_at l hd.used) hd.used i → times i (0 ∷ after) ≡ 1
  pub only : (i : ℕ) → 1 ≤ times i (0 ∷ after) → Front (version_at l hd.used) hd.used i
  pub undone : (i : ℕ) → 1 ≤ times i (0 ∷ after) → prev_at l hd.used (next_at l hd.used i) ≡ i

-- at each run's front other_end is its back, and at its back other_end is its front
pub record Ends (l : List ℕ) (hd : Header) : Type 0 where
  pub back : (f b : ℕ) → Run (version_at l hd.used) hd.used f b → other_end_at l hd.used f ≡ b
  pub front : (f b : ℕ) → Run (version_at l hd.used) hd.used f b → other_end_at l hd.used b ≡ f

pub record Sound (l : List ℕ) (hd : Header) : Type 0 where
  pub zero_even : ZeroEven l hd
  pub live_count : LiveCount l hd
  pub circle : Circle l hd
  pub ends : Ends l hd
