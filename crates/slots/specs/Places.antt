-- Where each word of a slot stands.
use Rattle.std.specs.Prelude.{ℕ}
use Rattle.rules.specs.Words.{version_word, next_word, prev_word, other_end_word}
use Rattle.slots.specs.declared.words.Word.{Word}

abbrev pub place_of : Word → ℕ
place_of Word.Version = version_word
place_of Word.Next = next_word
place_of Word.Prev = prev_word
place_of Word.OtherEnd = other_end_word
