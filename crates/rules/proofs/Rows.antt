-- A row set in a table, copied into it, and set in a part that is one row long; how long a row is that is handed back by value. Assumes nothing.
use Prim.Native.Nat.{ℕ, ◌+◌, ◌-◌, ◌*◌, ◌≤◌}
use mathlib.Core.List.{List, ◌++◌, append_assoc, append-nil}
use mathlib.Core.Path.{◌≡◌, refl, ap, ◌∙◌}
use native.Mathlib.Nat.{add-sub_cancel_left}
use native.Mathlib.Omega.{arith}
use lib.ListN.{length, take, drop_of_length-le, length-take, length-drop}
use lib.Dec.{eqb, ltb}
use lib.Seq.{take_all, drop-drop, paste}
use borrow.Rule.Slice.PartMut.{put_mid}
use borrow.Author.Tests.{eq-eqb, le-leb, leb-true}
use Rattle.rules.specs.Choice.{both}
use Rattle.rules.specs.Words.{row_words, row_within, row_at, set_row}
use Rattle.rules.specs.Values.{Outcome, unless}
use Rattle.rules.specs.Access.{look_row_rule}
use Rattle.rules.specs.Remove.{remove_step, remove_by, remove_slot, remove_rule}
use Rattle.rules.specs.declared.Header.{Header}
use Rattle.rules.specs.declared.Key.{Key}
use Rattle.rules.proofs.Choice.{by_pick, both_true}

-- where the row is within the table and the side buffer is a row, the row is pasted over
pub set_row_lem : (r : List ℕ) (i : ℕ) (s : List ℕ) → length s ≡ row_words → i * row_words + row_words ≤ length r →
    set_row r i s ≡ paste r (i * row_words) s row_words
unfolding set_row
set_row_lem r i s h j = simp (eq-eqb _ _ h, le-leb _ _ j)

-- the words of a row copied into the table where it lies, with the end less the start worked out
pub copied_in : (r : List ℕ) (i : ℕ) (s : List ℕ) → length s ≡ row_words → i * row_words + row_words ≤ length r →
    put_mid (i * row_words) (i * row_words + row_words - i * row_words) r s ≡ set_row r i s
copied_in r i s h j =
    simp (add-sub_cancel_left, drop-drop, set_row_lem r i s h j, take_all row_words s (omega arith), append_assoc)

-- a row set in a part of one row is the part
pub set_whole_row : (part s : List ℕ) → length s ≡ row_words → length part ≡ row_words → set_row part 0 s ≡ s
set_whole_row part s e h =
    set_row_lem part 0 s e (omega arith)
    ∙ ap (λ (w : List ℕ). take row_words s ++ w) (drop_of_length-le part {i = row_words} (omega arith))
    ∙ append-nil (take row_words s)
    ∙ take_all row_words s (omega arith)

-- the rows that a look and a removal hand back by value have eight words
pub row_length : (r : List ℕ) (used i : ℕ) → length (row_at r used i) ≡ row_words
unfolding row_at
row_length r used i =
    by_pick (λ (w : List ℕ). length w ≡ row_words) (both (ltb i used) (row_within r i)) _ _
    (λ e.
    let within = leb-true (i * row_words + row_words) (length r) (both_true (ltb i used) (row_within r i) e).1 in
    simp (length-take, length-drop) (omega arith))
    (λ _. refl)

unless_row : (l r : List ℕ) (hd : Header) (n : ℕ) (o : Outcome) → length o.row ≡ row_words → length (unless l r hd n o).row ≡ row_words
unfolding unless
unless_row l r hd n o h = by_pick (λ (w : Outcome). length w.row ≡ row_words) (eqb n 0) _ _ (λ _. h) (λ _. refl)

pub look_row_length : (l r : List ℕ) (hd : Header) (k : Key) → length (look_row_rule l r hd k).row ≡ row_words
unfolding look_row_rule
look_row_length l r hd k = unless_row l r hd _ _ (row_length r hd.used k.index)

pub remove_row_length : (l r : List ℕ) (hd : Header) (k : Key) → length (remove_rule l r hd k).row ≡ row_words
unfolding remove_rule remove_slot remove_by remove_step
remove_row_length l r hd k = unless_row l r hd _ _ (unless_row l r hd _ _ (row_length r hd.used k.index))
