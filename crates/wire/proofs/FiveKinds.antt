-- Which numbers are kinds: 1 to 5 are the five commands, and no other number begins one. Assumes nothing.
use Prim.Native.Nat.{ℕ}
use mathlib.Core.Path.{◌≡◌, refl}
use mathlib.Core.Logic.{◌≢◌}
use borrow.Author.Tests.{ne_eqb}
use Rattle.wire.specs.Commands.{command_of}
use Rattle.wire.specs.declared.Command.{Command}

-- 1 insert, 2 remove, 3 look, 4 clear, 5 walk
pub insert_kind : command_of 1 ≡ Command.Insert
unfolding command_of
insert_kind = refl

pub remove_kind : command_of 2 ≡ Command.Remove
unfolding command_of
remove_kind = refl

pub look_kind : command_of 3 ≡ Command.Look
unfolding command_of
look_kind = refl

pub clear_kind : command_of 4 ≡ Command.Clear
unfolding command_of
clear_kind = refl

pub walk_kind : command_of 5 ≡ Command.Walk
unfolding command_of
walk_kind = refl

-- every other number, 0 and those from 6 up, is no command
pub no_other_kind : (n : ℕ) → n ≢ 1 → n ≢ 2 → n ≢ 3 → n ≢ 4 → n ≢ 5 → command_of n ≡ Command.Unknown
unfolding command_of
no_other_kind n n1 n2 n3 n4 n5 = simp ne_eqb
