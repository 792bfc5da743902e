-- The output around a reply: it keeps its length, and where any reply fits the reply stands in it. Assumes nothing.
use Prim.Native.Nat.{ℕ, ◌+◌, ◌≤◌}
use mathlib.Core.List.{List}
use mathlib.Core.Path.{◌≡◌, refl}
use mathlib.Core.Bool.{true}
use borrow.Author.Tests.{leb-true}
use lib.ListN.{length}
use lib.Seq.{sets, length-sets}
use Rattle.rules.proofs.Choice.{by_pick}
use Rattle.wire.specs.Replies.{fits, longest, replied}

pub replied_keeps : (out : List ℕ) (at : ℕ) (reply : List ℕ) → length (replied out at reply) ≡ length out
unfolding replied
replied_keeps out at reply =
    by_pick (λ (l : List ℕ). length l ≡ length out) (fits (length out) at) (sets out at reply) out
    (λ h. length-sets out at reply) (λ h. refl)

-- where any reply fits there is room for the longest
pub fits_room : (room at : ℕ) → fits room at ≡ true → at + longest ≤ room
unfolding fits
fits_room room at h = leb-true (at + longest) room h
