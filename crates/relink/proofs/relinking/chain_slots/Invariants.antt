use Rattle.std.proofs.Common.{◌≡◌}
use Rattle.rules.specs.Rebuild.{chain_slots}
use Rattle.relink.proofs.relinking.chain_slots.Given as goal

abbrev pub invariant-loop-i : goal.invariant-loop-i
invariant-loop-i l =
    record { links = l.links; front = l.at.front; last = l.at.last } ≡ chain_slots l.n l.i (record { links = l.initial.links; front = 0; last = 0 })
