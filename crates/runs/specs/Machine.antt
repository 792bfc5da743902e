-- The abstract machine: the versions, the rows, how many slots are in use and how many are lent, and the fronts of the vacant runs
-- in chain order, slot 0's left out. It has no link word: a run's back is found by scanning.
use Rattle.std.specs.Prelude.{ℕ, zero, suc, ◌+◌, ◌-◌, List, [], ◌∷◌, ◌++◌, eqb}
use Rattle.rules.specs.Choice.{pick}
use Rattle.rules.specs.Words.{lent_of, version_at, row_at, vacant_by}
use Rattle.rules.specs.Runs.{odd_count}
use Rattle.rules.specs.declared.Header.{Header}
use Rattle.rules.specs.declared.Key.{Key}

pub record Machine : Type 0 where
  pub versions : ℕ → ℕ
  pub rows : ℕ → List ℕ
  pub used : ℕ
  pub fronts : List ℕ
  pub lent : ℕ

-- how many rows are live; the header that goes with the machine; the key of slot i as it stands
abbrev pub live_of : Machine → ℕ
live_of m = odd_count m.versions m.used

abbrev pub header_of : Machine → Header
header_of m = record { used = m.used; live = live_of m }

abbrev pub key_of : Machine → ℕ → Key
key_of m i = record { index = i; version = m.versions i }

-- the back of the run that slot k is in, looked for at most d slots up
unfoldable pub back_within : (ℕ → ℕ) → ℕ → ℕ → ℕ → ℕ
back_within v used zero k = k
back_within v used (suc d) k = pick (vacant_by v used (suc k)) (back_within v used d (suc k)) k

abbrev pub back_of : (ℕ → ℕ) → ℕ → ℕ → ℕ
back_of v used f = back_within v used (used - f) f

-- the first of the chain, 0 where slot 0's run is the only one; the chain without it
abbrev pub first : List ℕ → ℕ
first [] = 0
first (x ∷ xs) = x

abbrev pub later : List ℕ → List ℕ
later [] = []
later (x ∷ xs) = xs

-- the chain with the front r made i; with r left out
abbrev pub renamed : ℕ → ℕ → List ℕ → List ℕ
renamed r i [] = []
renamed r i (x ∷ xs) = pick (eqb x r) i x ∷ renamed r i xs

abbrev pub without : ℕ → List ℕ → List ℕ
without r [] = []
without r (x ∷ xs) = pick (eqb x r) (without r xs) (x ∷ without r xs)

-- the chain after slot i fell vacant: its run grows to the right of the one before it, to the left of the one after it,
-- joins the two, or is new and goes to the end
unfoldable pub fronts_after : (ℕ → ℕ) → ℕ → List ℕ → ℕ → List ℕ
fronts_after v used fronts i =
    pick (vacant_by v used (i - 1))
    (pick (vacant_by v used (i + 1)) (without (i + 1) fronts) fronts)
    (pick (vacant_by v used (i + 1)) (renamed (i + 1) i fronts) (fronts ++ i ∷ []))

-- the machine that a table is, its chain being known
abbrev pub machine_of : List ℕ → List ℕ → Header → List ℕ → Machine
machine_of l r hd fronts =
    record {
      versions = version_at l hd.used;
      rows = row_at r hd.used;
      used = hd.used;
      fronts = fronts;
      lent = lent_of l;
    }
