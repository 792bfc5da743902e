-- The removal of a slot under the key that it has: at one that is not occupied it is refused with 2; at one that is, that key goes.
-- Assumes nothing.
use Prim.Native.Nat.{ℕ, ◌≤◌}
use mathlib.Core.List.{List}
use mathlib.Core.Bool.{true, false}
use mathlib.Core.Path.{◌≡◌}
use Rattle.rules.specs.Words.{occupied_at, key_at}
use Rattle.rules.specs.Values.{refusal, unless}
use Rattle.rules.specs.Refusals.{◌▸◌, damaged}
use Rattle.rules.specs.Remove.{remove_slot, slot_number, remove_at}
use Rattle.rules.specs.declared.Header.{Header}
use Rattle.rules.proofs.Links.{past_used}

module _ (l r : List ℕ) (hd : Header) (q : ℕ) where
  pub refused_slot : occupied_at l hd.used q ≡ false → remove_at l r hd q ≡ refusal l r hd damaged
  unfolding remove_at slot_number unless ◌▸◌
  refused_slot e = simp e

  pub removed_slot : occupied_at l hd.used q ≡ true → remove_at l r hd q ≡ remove_slot l r hd (key_at l hd.used q)
  unfolding remove_at slot_number unless ◌▸◌
  removed_slot e = simp e

  pub refused_past_used : hd.used ≤ q → remove_at l r hd q ≡ refusal l r hd damaged
  refused_past_used h = refused_slot (past_used l hd.used q h).1

-- what the code of a removal by slot needs
pub ruleset removes = (refused_slot, removed_slot, refused_past_used)
