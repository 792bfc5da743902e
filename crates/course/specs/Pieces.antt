-- Piece after piece: the input cut in any way, each piece fed with an output of its own, and none of the feeds refused.
use Rattle.std.specs.Prelude.{ℕ, List, [], ◌++◌, ◌≡◌, take}
use Rattle.commands.specs.Turns.{Run}
use Rattle.stream.specs.Feeding.{Piece, feed_rule}

-- the bytes of the input that a feed has taken; those of the output that it has written
abbrev pub taken_of : List ℕ → Piece → List ℕ
taken_of input p = take p.taken input

abbrev pub written_of : Piece → List ℕ
written_of p = take p.written p.out

-- from a run to a run, with all the bytes taken and all that were written
pub data Pieces : Run → List ℕ → List ℕ → Run → Type 0 where
  none : {s : Run} → Pieces s [] [] s
  more : {s s' : Run} {taken written : List ℕ} (input out : List ℕ) → (feed_rule s input out).number ≡ 0 →
      Pieces (feed_rule s input out).run taken written s' →
      Pieces s (taken_of input (feed_rule s input out) ++ taken) (written_of (feed_rule s input out) ++ written) s'

-- pieces lead from one run to the other, whatever their bytes
abbrev pub Reached : Run → Run → Type 0
Reached s s' = (taken : List ℕ) × ((written : List ℕ) × Pieces s taken written s')
