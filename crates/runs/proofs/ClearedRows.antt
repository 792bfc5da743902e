-- Clearing rows, as rebuild does: the rows of vacant slots become zero, every other stays. Assumes nothing.
use mathlib.Core.Path.{◌≡◌, refl, ap, ◌∙◌}
use mathlib.Core.List.{List}
use mathlib.Core.Bool.{Bool, true, false}
use Prim.Native.Nat.{ℕ, zero, suc, ◌*◌, ◌≤◌}
use native.Mathlib.Decide.{ℕ_discrete}
use native.Mathlib.Omega.{arith}
use lib.ListN.{length}
use lib.Dec.{ltb}
use borrow.Author.Tests.{lt-ltb, le-ltb}
use Rattle.rules.specs.Choice.{pick, both}
use Rattle.rules.specs.Words.{row_words, zero_row, version_at, is_even, vacant_at, row_at}
use Rattle.rules.specs.Rebuild.{cleared_rows}
use Rattle.rules.proofs.Choice.{by_pick}
use Rattle.runs.proofs.Points.{put_same, put_other, below_next}
use Rattle.runs.proofs.Rows.{holds_row, row_below, length_row, rows}

module _ (l r : List ℕ) (n : ℕ) where
  pub cleared_length : (k : ℕ) → length (cleared_rows l n k r) ≡ length r
  unfolding cleared_rows
  cleared_length zero = refl
  cleared_length (suc k) =
      by_pick (λ (t : List ℕ). length t ≡ length r) (vacant_at l n k) _ _
      (λ _. length_row (cleared_rows l n k r) k zero_row ∙ cleared_length k)
      (λ _. cleared_length k)

  module _ (fits : n * row_words ≤ length r) where
    -- after the slots below k
    cleared_below : (i k : ℕ) → k ≤ n → row_at (cleared_rows l n k r) n i ≡ pick (both (ltb i k) (vacant_at l n i)) zero_row (row_at r n i)
    unfolding cleared_rows
    cleared_below i zero h = simp (le-ltb i 0 (omega arith))
    cleared_below i (suc k) h = go (vacant_at l n k) refl (ℕ_discrete i k) (cleared_below i k (omega arith))
      where
        held : holds_row (cleared_rows l n k r) n k ≡ true
        held = row_below (cleared_rows l n k r) n k (omega (arith, cleared_length k)) h

        go : (t : Bool) → vacant_at l n k ≡ t → Dec (i ≡ k) →
            row_at (cleared_rows l n k r) n i ≡ pick (both (ltb i k) (vacant_at l n i)) zero_row (row_at r n i) →
            row_at (cleared_rows l n (suc k) r) n i ≡ pick (both (ltb i (suc k)) (vacant_at l n i)) zero_row (row_at r n i)
        go true t (yes e) ih =
            simp (rows, t, held, put_same (row_at (cleared_rows l n k r) n) k zero_row i e, lt-ltb i (suc k) (omega arith), ap (vacant_at l n) e)
        go true t (no d) ih = simp (rows, t, held, put_other (row_at (cleared_rows l n k r) n) k zero_row i d, below_next i k d) ih
        go false t (yes e) ih = simp (t, ih, le-ltb i k (omega arith), lt-ltb i (suc k) (omega arith), ap (vacant_at l n) e)
        go false t (no d) ih = simp (t, below_next i k d) ih

    -- after all of them
    pub cleared_row : (i : ℕ) → row_at (cleared_rows l n n r) n i ≡ pick (vacant_at l n i) zero_row (row_at r n i)
    unfolding vacant_at
    cleared_row i =
        cleared_below i n (omega arith)
        ∙ ap (λ (t : Bool). pick t zero_row (row_at r n i)) (twice (ltb i n) (is_even (version_at l n i)))
      where
        twice : (a b : Bool) → both a (both a b) ≡ both a b
        twice true b = refl
        twice false b = refl
