-- The row table as a function of the slot: a row set in a slot in use changes that function at that slot and no other, also
-- where the slot comes into use with it. Assumes nothing.
use mathlib.Core.Path.{◌≡◌, fun_ext, refl, sym, ap, ◌∙◌}
use mathlib.Core.Logic.{◌≢◌}
use mathlib.Core.List.{List, ◌++◌, append_assoc}
use mathlib.Core.Bool.{Bool, true}
use Prim.Native.Nat.{ℕ, ◌+◌, ◌*◌, ◌≤◌, ◌<◌}
use native.Mathlib.Decide.{ℕ_discrete, dec_lt}
use native.Mathlib.Omega.{arith}
use lib.ListN.{length, take, drop}
use lib.Seq.{take_all, take_at, drop_at, length-take-le, length-paste}
use lib.Dec.{ltb, leb, eqb}
use borrow.Author.Tests.{leb-true, eqb-true, lt-ltb, le-leb}
use Rattle.rules.specs.Choice.{pick, both}
use Rattle.rules.specs.Words.{row_words, row_within, zero_row, row_at, set_row}
use Rattle.rules.specs.NeverRead.{AgreeTo}
use Rattle.rules.proofs.Choice.{by_pick, by_picks, both_true}
use Rattle.rules.proofs.Rows.{set_row_lem}
use Rattle.rules.proofs.Agree.{same_part}
use Rattle.rules.proofs.Kept.{row_kept}
use Rattle.runs.specs.Points.{put}
use Rattle.runs.proofs.Points.{put_same, put_other, more_in_use}

-- slot i is in use and the table has its row; s is a row: tests, so that `simp` can carry them through the writes
unfoldable pub holds_row : List ℕ → ℕ → ℕ → Bool
holds_row r used i = both (ltb i used) (row_within r i)

abbrev pub is_row : List ℕ → Bool
is_row s = eqb (length s) row_words

pub row_below : (r : List ℕ) (used i : ℕ) → used * row_words ≤ length r → i < used → holds_row r used i ≡ true
unfolding holds_row
row_below r used i h k = simp (lt-ltb i used k, le-leb (i * row_words + row_words) (length r) (omega arith))

pub length_row : (r : List ℕ) (i : ℕ) (s : List ℕ) → length (set_row r i s) ≡ length r
unfolding set_row
length_row r i s =
    by_pick (λ (t : List ℕ). length t ≡ length r) (both (is_row s) (row_within r i)) _ _
    (λ e.
    let f = both_true (is_row s) (row_within r i) e in
    let whole = eqb-true (length s) row_words f.0 in
    length-paste r (i * row_words) s row_words (leb-true (i * row_words + row_words) (length r) f.1) (omega arith))
    (λ _. refl)

pub holds_row_lem : (r : List ℕ) (i : ℕ) (s : List ℕ) (used k : ℕ) → holds_row (set_row r i s) used k ≡ holds_row r used k
unfolding holds_row
holds_row_lem r i s used k = simp length_row

module _ (r : List ℕ) (i : ℕ) (s : List ℕ) (c : is_row s ≡ true) (within : i * row_words + row_words ≤ length r) where
  whole : length s ≡ row_words
  whole = eqb-true (length s) row_words c

  -- what stands before the row, the row, what stands after it
  rest : List ℕ
  rest = drop (i * row_words + row_words) r

  pasted : set_row r i s ≡ take (i * row_words) r ++ (s ++ rest)
  unfolding rest
  pasted =
      set_row_lem r i s whole within
      ∙ append_assoc (take (i * row_words) r) (take row_words s) rest
      ∙ ap (λ (t : List ℕ). take (i * row_words) r ++ (t ++ rest)) (take_all row_words s (omega (arith, whole)))

  ahead : length (take (i * row_words) r) ≡ i * row_words
  ahead = length-take-le (i * row_words) r (omega arith)

  part_here : take row_words (drop (i * row_words) (set_row r i s)) ≡ s
  part_here =
      ap (λ (t : List ℕ). take row_words (drop (i * row_words) t)) pasted
      ∙ ap (take row_words) (drop_at (take (i * row_words) r) (s ++ rest) (i * row_words) ahead)
      ∙ take_at s rest row_words whole

  before : AgreeTo (i * row_words) (set_row r i s) r
  before = record {
    lengths = length_row r i s;
    words = ap (take (i * row_words)) pasted ∙ take_at (take (i * row_words) r) (s ++ rest) (i * row_words) ahead;
  }

  part_there : (k : ℕ) → k ≢ i → k * row_words + row_words ≤ length r →
      take row_words (drop (k * row_words) (set_row r i s)) ≡ take row_words (drop (k * row_words) r)
  part_there k n h = go (dec_lt k i)
    where
      go : Dec (k < i) → take row_words (drop (k * row_words) (set_row r i s)) ≡ take row_words (drop (k * row_words) r)
      go (yes a) = same_part (k * row_words) row_words (i * row_words) (set_row r i s) r before (omega arith) (omega (arith, length_row r i s))
      go (no a) = ap (take row_words) (row_kept k r i s (omega arith))

-- a row set: row by row
pub row_put_at : (r : List ℕ) (i : ℕ) (s : List ℕ) (used k : ℕ) → holds_row r used i ≡ true → is_row s ≡ true →
    row_at (set_row r i s) used k ≡ put (row_at r used) i s k
unfolding holds_row row_at
row_put_at r i s used k h c = go (ℕ_discrete k i)
  where
    within : i * row_words + row_words ≤ length r
    within = leb-true (i * row_words + row_words) (length r) (both_true (ltb i used) (row_within r i) h).1

    go : Dec (k ≡ i) → row_at (set_row r i s) used k ≡ put (row_at r used) i s k
    go (yes e) = rw e (simp (length_row r i s, h, part_here r i s c within) (sym (put_same (row_at r used) i s i refl)))
    go (no n) =
        ap (λ (m : ℕ). pick (both (ltb k used) (leb (k * row_words + row_words) m)) (take row_words (drop (k * row_words) (set_row r i s))) zero_row) (length_row r i s)
        ∙ by_picks ◌≡◌ (both (ltb k used) (row_within r k)) _ _ _ _
        (λ e. part_there r i s c within k n (leb-true (k * row_words + row_words) (length r) (both_true (ltb k used) (row_within r k) e).1))
        (λ _. refl)
        ∙ sym (put_other (row_at r used) i s k n)

-- as functions; the second where the slot comes into use with the row
pub row_put : (r : List ℕ) (i : ℕ) (s : List ℕ) (used : ℕ) → holds_row r used i ≡ true → is_row s ≡ true →
    row_at (set_row r i s) used ≡ put (row_at r used) i s
row_put r i s used h c = fun_ext λ k. row_put_at r i s used k h c

pub row_new : (r : List ℕ) (used : ℕ) (s : List ℕ) → holds_row r (used + 1) used ≡ true → is_row s ≡ true →
    row_at (set_row r used s) (used + 1) ≡ put (row_at r used) used s
unfolding row_at
row_new r used s h c =
    row_put r used s (used + 1) h c
    ∙ fun_ext (more_in_use (λ t j. pick (both t (row_within r j)) (take row_words (drop (j * row_words) r)) zero_row) used s)

pub ruleset rows = (row_put_at, row_put, holds_row_lem, length_row)
