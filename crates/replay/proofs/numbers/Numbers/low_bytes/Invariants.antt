use Rattle.std.proofs.Common.{◌≡◌, length}
use Rattle.replay.proofs.numbers.Numbers.low_bytes.Given as goal

abbrev pub invariant-loop-word : goal.invariant-loop-word
invariant-loop-word l = length l.bytes.items ≡ l.word-index
