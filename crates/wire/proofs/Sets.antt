-- Bytes stored from a place on: those of two lists, and those of the words of a row, one word after the other. Assumes nothing.
use Prim.Native.Nat.{ℕ, suc, ◌+◌, ◌-◌, ◌*◌, ◌≤◌, ◌<◌}
use mathlib.Core.List.{List, [], ◌∷◌, ◌++◌, append_assoc}
use mathlib.Core.Path.{◌≡◌, refl, sym, ap, ◌∙◌}
use native.Mathlib.Nat.{add-zero, add-suc, suc-add, add-sub_cancel_left}
use native.Mathlib.Numerals.{add-one}
use native.Mathlib.Omega.{arith}
use lib.ListN.{length, set, take, get_or}
use lib.Seq.{sets, length-sets, sets-eq, take-suc, length-take-le, drop-drop}
use borrow.Rule.Slice.PartMut.{put_mid}
use Rattle.wire.specs.Words.{bytes_of, words_bytes}
use Rattle.wire.proofs.Lengths.{length_words_bytes, lengths}

-- the first list and then the second, from where the first ends
pub sets_append : (l : List ℕ) (i : ℕ) (vs ws : List ℕ) → sets l i (vs ++ ws) ≡ sets (sets l i vs) (i + length vs) ws
sets_append l i [] ws = rw add-zero
sets_append l i (v ∷ vs) ws =
    sets_append (set l i v) (suc i) vs ws
    ∙ ap (λ (k : ℕ). sets (sets (set l i v) (suc i) vs) k ws) (suc-add i (length vs) ∙ sym (add-suc i (length vs)))

-- the bytes of words and of one word more
pub words_bytes_append : (ws : List ℕ) (w : ℕ) → words_bytes (ws ++ w ∷ []) ≡ words_bytes ws ++ bytes_of w
unfolding words_bytes bytes_of
words_bytes_append [] w = refl
words_bytes_append (v ∷ ws) w = ap (λ (bs : List ℕ). bytes_of v ++ bs) (words_bytes_append ws w)

-- where the bytes of the first k words stand, word k put after them makes those of the first k + 1
pub sets_words_more : (l : List ℕ) (i : ℕ) (ws : List ℕ) (k : ℕ) → k < length ws →
    sets (sets l i (words_bytes (take k ws))) (i + k * 4) (bytes_of (get_or ws k 0)) ≡ sets l i (words_bytes (take (k + 1) ws))
sets_words_more l i ws k h =
    let t : length (take k ws) ≡ k = length-take-le k ws (omega arith) in
    rw (add-one, take-suc ws k 0 h, words_bytes_append, sets_append, length_words_bytes, t)

-- bytes copied into the part where they belong, with its end less its start worked out
pub copied : (l : List ℕ) (i n : ℕ) (vs : List ℕ) → length vs ≡ n → i + n ≤ length l → put_mid i (i + n - i) l vs ≡ sets l i vs
copied l i n vs h j =
    simp (add-sub_cancel_left, drop-drop, ← append_assoc)
    (sym (rw h at (sets-eq vs l i (omega arith))))

-- what the code that writes replies needs of stores
pub ruleset stores = (sets_append, length-sets, lengths)
