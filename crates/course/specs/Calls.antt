-- The calls that the stream makes, one after the other, as a history has them.
use Rattle.std.specs.Prelude.{ℕ, zero, suc, ◌+◌, List, [], ◌∷◌, ◌++◌, ltb}
use Rattle.rules.specs.Choice.{pick}
use Rattle.rules.specs.Values.{Kind, gives, ends, refuses}
use Rattle.rules.specs.declared.Key.{Key}
use Rattle.history.specs.Calls.{Call, ask, look, hop, insert, remove, clear}
use Rattle.history.specs.Histories.{answer}
use Rattle.wire.specs.Commands.{command_of, body_length}
use Rattle.wire.specs.declared.Command.{Command}
use Rattle.commands.specs.Turns.{Run, table_of, key_of, row_of}
use Rattle.commands.specs.declared.Phase.{Phase}
use Rattle.hearing.specs.Heard.{with_byte, heard}
use Rattle.course.specs.Course.{standing, walked, walked_out}

-- of a command whose body is whole
abbrev pub command_calls : Command → Run → List Call
command_calls Command.Insert s = insert (row_of s) ∷ []
command_calls Command.Remove s = remove (key_of s) ∷ []
command_calls Command.Look s = ask (look (key_of s)) ∷ []
command_calls Command.Clear s = clear ∷ []
command_calls Command.Walk s = []
command_calls Command.Unknown s = []

abbrev pub gathered_calls : Command → ℕ → Run → List Call
gathered_calls k got s = pick (ltb got (body_length k)) [] (command_calls k s)

-- of a byte
abbrev pub heard_calls_in : Phase → Run → ℕ → List Call
heard_calls_in Phase.Between s b = gathered_calls (command_of b) 0 s
heard_calls_in (Phase.Gathering k got) s b = gathered_calls k (got + 1) (with_byte s got b)
heard_calls_in (Phase.Walking c) s b = []
heard_calls_in Phase.Ended s b = []

abbrev pub heard_calls : Run → ℕ → List Call
heard_calls s b = heard_calls_in s.stream.phase s b

-- of a step of a walk: the hop step, and a look at the key that it finds
abbrev pub shown_calls : Kind → Key → List Call
shown_calls gives k = ask (look k) ∷ []
shown_calls ends k = []
shown_calls refuses k = []

abbrev pub step_calls : Run → ℕ → List Call
step_calls s c =
    let a = answer (table_of s) (ask (hop c)) in
    ask (hop c) ∷ shown_calls a.kind a.key

-- of a walk to its end, in so many steps at most
abbrev pub walk_calls_in : Phase → Run → List Call → List Call
walk_calls_in Phase.Between s more = []
walk_calls_in (Phase.Gathering k got) s more = []
walk_calls_in (Phase.Walking c) s more = step_calls s c ++ more
walk_calls_in Phase.Ended s more = []

abbrev pub walk_calls : ℕ → Run → List Call
walk_calls zero s = []
walk_calls (suc n) s = walk_calls_in s.stream.phase s (walk_calls n (walked (standing s)).run)

abbrev pub walked_out_calls : Run → List Call
walked_out_calls s = walk_calls (suc s.stream.header.used) s

-- of bytes
abbrev pub calls : Run → List ℕ → List Call
calls s [] = walked_out_calls s
calls s (b ∷ bs) =
    let t = (walked_out s).run in
    walked_out_calls s ++ heard_calls t b ++ calls (heard t b).run bs
