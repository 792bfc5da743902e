-- The rule of the whole stream: what is replied to bytes, and the run after them, with all the room there could be.
use Rattle.std.specs.Prelude.{ℕ, suc, List, [], ◌∷◌, ◌++◌, Bool}
use Rattle.commands.specs.Turns.{Run, Turned, walk_turn}
use Rattle.commands.specs.declared.Phase.{Phase}
use Rattle.stream.specs.Repeats.{while}
use Rattle.stream.specs.Feeding.{reply_of}
use Rattle.hearing.specs.Heard.{walks_in, heard, ended_of}

-- the run so far, and all that was replied
pub record Course : Type 0 where
  pub run : Run
  pub said : List ℕ

-- a run of which nothing was replied yet
abbrev pub standing : Run → Course
standing s = record { run = s; said = [] }

-- a turn after what was replied; a course after replies made before it
abbrev pub spoken_after : List ℕ → Turned → Course
spoken_after said t = record { run = t.run; said = said ++ reply_of t }

abbrev pub preceded : List ℕ → Course → Course
preceded said c = record { run = c.run; said = said ++ c.said }

-- a walk is under way, and one step of it
abbrev pub walks : Course → Bool
walks c = walks_in c.run.stream.phase

abbrev pub walked_in : Phase → Course → Course
walked_in Phase.Between x = x
walked_in (Phase.Gathering k got) x = x
walked_in (Phase.Walking c) x = spoken_after x.said (walk_turn x.run c)
walked_in Phase.Ended x = x

unfoldable pub walked : Course → Course
walked x = walked_in x.run.stream.phase x

-- a walk to its end: its cursor rises with each step, so no more steps are to come than slots are in use, and one
unfoldable pub walked_out : Run → Course
walked_out s = while walks walked (suc s.stream.header.used) (standing s)

-- the bytes, one after the other, the walk of each to its end
abbrev pub course : Run → List ℕ → Course
course s [] = walked_out s
course s (b ∷ bs) =
    let x = walked_out s in
    let t = heard x.run b in
    preceded (x.said ++ reply_of t) (course t.run bs)

-- the whole of the input: its bytes, and its end
abbrev pub whole : Run → List ℕ → Course
whole s bs =
    let x = course s bs in
    spoken_after x.said (ended_of x.run)
