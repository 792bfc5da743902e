-- The replies of the stream, byte by byte, and how one stands in the output.
use Rattle.std.specs.Prelude.{ℕ, ◌+◌, ◌%◌, List, [], ◌∷◌, ◌++◌, Bool, length, leb}
use Rattle.std.proofs.lemmas.List.Edits.{sets}
use Rattle.rules.specs.Choice.{pick}
use Rattle.rules.specs.declared.Key.{Key}
use Rattle.wire.specs.declared.Saying.{Saying}
use Rattle.wire.specs.Words.{key_bytes, words_bytes}

-- 129 with a key; 130 with key and row; 131 alone; 132 with one byte, the number
abbrev pub key_reply : Key → List ℕ
key_reply k = 129 ∷ key_bytes k

abbrev pub row_reply : Key → List ℕ → List ℕ
row_reply k row = 130 ∷ (key_bytes k ++ words_bytes row)

abbrev pub done_reply : List ℕ
done_reply = 131 ∷ []

abbrev pub refused_reply : ℕ → List ℕ
refused_reply n = 132 ∷ n % 256 ∷ []

-- the bytes of what is said, with the row beside it
unfoldable pub saying_bytes : Saying → List ℕ → List ℕ
saying_bytes Saying.Silent row = []
saying_bytes (Saying.WithKey k) row = key_reply k
saying_bytes (Saying.WithRow k) row = row_reply k row
saying_bytes Saying.Done row = done_reply
saying_bytes (Saying.Refused n) row = refused_reply n

-- the longest reply: 130 with key and row
abbrev pub longest : ℕ
longest = 41

-- the output of a given length has room for any reply from byte at on
unfoldable pub fits : ℕ → ℕ → Bool
fits room at = leb (at + longest) room

-- the output with the reply from byte at on, and the byte after it; where there is no room, nothing is written
unfoldable pub replied : List ℕ → ℕ → List ℕ → List ℕ
replied out at reply = pick (fits (length out) at) (sets out at reply) out

unfoldable pub replied_to : List ℕ → ℕ → List ℕ → ℕ
replied_to out at reply = pick (fits (length out) at) (at + length reply) at
