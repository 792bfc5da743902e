use Rattle.std.proofs.Common.{◌≡◌, ◌+◌, ◌*◌, take}
use Rattle.wire.specs.Words.{words_bytes}
use lib.Seq.{sets}
use Rattle.replies.proofs.put_words.Given as goal

-- the words so far stand in the output
abbrev pub invariant-loop-word : goal.invariant-loop-word
invariant-loop-word l = (l.end ≡ l.at + l.word-index * 4) × (l.out ≡ sets l.initial.out l.at (words_bytes (take l.word-index l.words)))
