-- Words as bytes, low byte first, and the words that a body holds.
use Rattle.std.specs.Prelude.{ℕ, ◌+◌, ◌*◌, ◌/◌, ◌%◌, List, [], ◌∷◌, ◌++◌, get_or}
use Rattle.rules.specs.declared.Key.{Key}

-- the four bytes of a word; the bytes of words, one after the other
unfoldable pub bytes_of : ℕ → List ℕ
bytes_of w = w % 256 ∷ w / 256 % 256 ∷ w / 65536 % 256 ∷ w / 16777216 % 256 ∷ []

unfoldable pub words_bytes : List ℕ → List ℕ
words_bytes [] = []
words_bytes (w ∷ ws) = bytes_of w ++ words_bytes ws

-- a key's bytes: index, version
unfoldable pub key_bytes : Key → List ℕ
key_bytes k = bytes_of k.index ++ bytes_of k.version

-- the word whose low byte is byte a
unfoldable pub word_at : List ℕ → ℕ → ℕ
word_at s a = get_or s a 0 + get_or s (a + 1) 0 * 256 + get_or s (a + 2) 0 * 65536 + get_or s (a + 3) 0 * 16777216

-- the key and the row of a body
unfoldable pub key_in : List ℕ → Key
key_in s = record { index = word_at s 0; version = word_at s 4 }

unfoldable pub row_in : List ℕ → List ℕ
row_in s =
    word_at s 0 ∷ word_at s 4 ∷ word_at s 8 ∷ word_at s 12 ∷ word_at s 16 ∷ word_at s 20 ∷ word_at s 24 ∷ word_at s 28 ∷ []
