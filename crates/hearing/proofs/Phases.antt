-- Whether a body is whole, where its length is known; what a byte does, where the phase is known. Assumes nothing.
use Prim.Native.Nat.{ℕ, ◌≤◌, ◌<◌}
use mathlib.Core.Path.{◌≡◌, refl, sym, ap}
use borrow.Author.Tests.{lt-ltb, le-ltb}
use Rattle.wire.specs.Commands.{body_length}
use Rattle.wire.specs.declared.Command.{Command}
use Rattle.wire.specs.declared.Saying.{Saying}
use Rattle.commands.specs.Turns.{Run, calm, command_turn}
use Rattle.commands.specs.declared.Phase.{Phase}
use Rattle.hearing.specs.Heard.{gathered, heard_in, heard}

module _ (k : Command) (got : ℕ) (s : Run) where
  pub gathering : got < body_length k → calm s (Phase.Gathering k got) Saying.Silent ≡ gathered k got s
  gathering h = rw (lt-ltb got (body_length k) h) refl

  pub whole_body : body_length k ≤ got → command_turn k s ≡ gathered k got s
  whole_body h = rw (le-ltb got (body_length k) h) refl

pub heard_by : (s : Run) (b : ℕ) (p : Phase) → s.stream.phase ≡ p → heard_in p s b ≡ heard s b
unfolding heard
heard_by s b p e = ap (λ (q : Phase). heard_in q s b) (sym e)
