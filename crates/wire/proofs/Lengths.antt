-- How many bytes and words there are: of a word, a key, a row, a reply. Assumes nothing.
use Prim.Native.Nat.{ℕ, ◌*◌, ◌≤◌}
use mathlib.Core.List.{List, [], ◌∷◌}
use mathlib.Core.Path.{◌≡◌, refl}
use native.Mathlib.Omega.{arith}
use lib.ListN.{length, length-append}
use Rattle.rules.specs.Words.{row_words}
use Rattle.rules.specs.declared.Key.{Key}
use Rattle.wire.specs.declared.Saying.{Saying}
use Rattle.wire.specs.Words.{bytes_of, words_bytes, key_bytes}
use Rattle.wire.specs.Replies.{saying_bytes, longest}

-- a word has 4 bytes, a key 8, words 4 each
pub length_bytes : (w : ℕ) → length (bytes_of w) ≡ 4
unfolding bytes_of
length_bytes w = refl

pub length_key_bytes : (k : Key) → length (key_bytes k) ≡ 8
unfolding key_bytes bytes_of
length_key_bytes k = refl

pub length_words_bytes : (ws : List ℕ) → length (words_bytes ws) ≡ length ws * 4
unfolding words_bytes
length_words_bytes [] = refl
length_words_bytes (w ∷ ws) = simp (length-append, length_bytes, length_words_bytes ws) (omega arith)

-- how long each reply is
pub silent_length : (row : List ℕ) → length (saying_bytes Saying.Silent row) ≡ 0
unfolding saying_bytes
silent_length row = refl

pub with_key_length : (k : Key) (row : List ℕ) → length (saying_bytes (Saying.WithKey k) row) ≡ 9
unfolding saying_bytes
with_key_length k row = omega (arith, length_key_bytes k)

pub with_row_length : (k : Key) (row : List ℕ) → length row ≡ row_words → length (saying_bytes (Saying.WithRow k) row) ≡ longest
unfolding saying_bytes
with_row_length k row h = simp (length-append, length_key_bytes, length_words_bytes) (omega arith)

pub done_length : (row : List ℕ) → length (saying_bytes Saying.Done row) ≡ 1
unfolding saying_bytes
done_length row = refl

pub refused_length : (n : ℕ) (row : List ℕ) → length (saying_bytes (Saying.Refused n) row) ≡ 2
unfolding saying_bytes
refused_length n row = refl

-- no reply is longer than the longest
pub saying_length : (s : Saying) (row : List ℕ) → length row ≡ row_words → length (saying_bytes s row) ≤ longest
saying_length Saying.Silent row h = omega (arith, silent_length row)
saying_length (Saying.WithKey k) row h = omega (arith, with_key_length k row)
saying_length (Saying.WithRow k) row h = omega (arith, with_row_length k row h)
saying_length Saying.Done row h = omega (arith, done_length row)
saying_length (Saying.Refused n) row h = omega (arith, refused_length n row)

-- what the code that writes replies needs of lengths
pub ruleset lengths = (length_bytes, length_key_bytes, length_words_bytes, length-append)
