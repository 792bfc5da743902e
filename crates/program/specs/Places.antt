-- Where the program stands between two rounds.
use Rattle.std.specs.Prelude.{ℕ, ◌+◌, ◌-◌, ◌≤◌, List, Bool, Result, ⊤, ◌≡◌, IfOk, take, drop}
use Rattle.rules.specs.Choice.{pick}
use Rattle.rules.specs.Headers.{fresh}
use Rattle.commands.specs.Turns.{run_of}
use Rattle.commands.specs.declared.Phase.{Phase}
use Rattle.commands.specs.declared.Stream.{Stream}
use Rattle.hearing.specs.Heard.{opened}
use Rattle.stream.specs.Feeding.{Piece}
use Rattle.program.specs.declared.Next.{Next}
use Rattle.program.specs.declared.failure.Failure.{Failure}

-- the stream before its first byte, over a map that start has just made
abbrev pub opening : Stream
opening = opened fresh

-- what is left of the piece lies in a buffer of so many bytes, and which bytes these are
abbrev pub InBuffer : Next → ℕ → Type 0
InBuffer (Next.Feed at end) room = (at ≤ end) × (end ≤ room)
InBuffer Next.Read room = ⊤
InBuffer Next.Finish room = ⊤
InBuffer Next.Stop room = ⊤

abbrev pub rest_of : ℕ → ℕ → List ℕ → List ℕ
rest_of at end input = take (end - at) (drop at input)

-- after a piece, and its replies written: what is taken of it is past, and what waits is fed on; after the end of the stream nothing is read any more
abbrev pub going_on : ℕ → ℕ → ℕ → Bool → Next
going_on at end taken waits = pick waits (Next.Feed (at + taken) end) Next.Read

abbrev pub next_after : ℕ → ℕ → ℕ → Bool → Phase → Next
next_after at end taken waits Phase.Between = going_on at end taken waits
next_after at end taken waits (Phase.Gathering k got) = going_on at end taken waits
next_after at end taken waits (Phase.Walking c) = going_on at end taken waits
next_after at end taken waits Phase.Ended = Next.Stop

-- tables, state and output are those after the piece of a rule, and so is what comes next, but where writing failed
pub record FedTo (x : Piece) (at end : ℕ) (l r : List ℕ) (s : Stream) (out : List ℕ) (result : Result Next Failure) : Type 0 where
  pub run : run_of l r s ≡ x.run
  pub output : out ≡ x.out
  pub next : IfOk result (λ n. n ≡ next_after at end x.taken x.waits x.run.stream.phase)
