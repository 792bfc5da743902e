-- A row that was lent on as a part of the row table and written there is that row set in the table. Assumes nothing.
use Prim.Native.Nat.{ℕ, ◌+◌, ◌-◌, ◌*◌, ◌≤◌}
use mathlib.Core.List.{List, append_assoc}
use mathlib.Core.Path.{◌≡◌}
use native.Mathlib.Nat.{add-sub_cancel_left}
use native.Mathlib.Omega.{arith}
use lib.ListN.{length, take, drop, length-take, length-drop}
use lib.Seq.{take_all, drop-drop}
use borrow.Rule.Slice.PartMut.{put_mid}
use Rattle.rules.specs.Words.{row_words, set_row}
use Rattle.rules.proofs.Rows.{set_row_lem, set_whole_row}

module _ (rows side : List ℕ) (i : ℕ) (row : length side ≡ row_words) (within : i * row_words + row_words ≤ length rows) where
  -- the part and the rest, with the end less the start worked out
  pub lent_on : put_mid (i * row_words) (i * row_words + row_words - i * row_words) rows
      (set_row (take (i * row_words + row_words - i * row_words) (drop (i * row_words) rows)) 0 side)
      ≡ set_row rows i side
  lent_on =
      let part = take row_words (drop (i * row_words) rows) in
      let eight : length part ≡ row_words = simp (length-take, length-drop) (omega arith) in
      simp (
        add-sub_cancel_left,
        drop-drop,
        set_whole_row part side row eight,
        set_row_lem rows i side row within,
        take_all row_words side (omega arith),
        append_assoc,
      )
