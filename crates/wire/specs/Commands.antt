-- A command: the kind that its first byte tells, and the length of its body, which the kind fixes.
use Rattle.std.specs.Prelude.{ℕ, eqb}
use Rattle.rules.specs.Choice.{pick}
use Rattle.wire.specs.declared.Command.{Command}

-- 1 insert, 2 remove, 3 look, 4 clear, 5 walk; 0 and from 6 up: unknown
unfoldable pub command_of : ℕ → Command
command_of b =
    pick (eqb b 1) Command.Insert
    (pick (eqb b 2) Command.Remove
    (pick (eqb b 3) Command.Look
    (pick (eqb b 4) Command.Clear
    (pick (eqb b 5) Command.Walk Command.Unknown))))

-- insert: 32 bytes of row; remove and look: 8 bytes of key; clear and walk: none
abbrev pub body_length : Command → ℕ
body_length Command.Insert = 32
body_length Command.Remove = 8
body_length Command.Look = 8
body_length Command.Clear = 0
body_length Command.Walk = 0
body_length Command.Unknown = 0

-- the longest body
abbrev pub body_bytes : ℕ
body_bytes = 32
