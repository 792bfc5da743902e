-- Which numbers the chains give, on any words: those that they name, and no other. Assumes nothing.
use Prim.Native.Nat.{ℕ}
use mathlib.Core.List.{List, ◌∷◌}
use mathlib.Core.Bool.{Bool, true, false}
use mathlib.Core.Path.{◌≡◌, refl}
use mathlib.Core.Logic.{◌≢◌}
use lib.Dec.{eqb}
use borrow.Author.Tests.{eqb-false}
use Rattle.rules.specs.Values.{Outcome, unless}
use Rattle.rules.specs.Refusals.{◌▸◌, shape, damaged, even_version, not_live, full, stale_cursor, wrong_presence, zero_occupied, lent_number, header_number, shape_number, side_number, zero_number, live_number, entry_number, side_entry_number}
use Rattle.rules.specs.Given.{one_of, Only}
use Rattle.rules.specs.Access.{key_number, replace_number}
use Rattle.rules.specs.Insert.{run_number, take_number, insert_number}
use Rattle.rules.specs.Remove.{apart_number, left_number, right_number, remove_number, slot_number}
use Rattle.rules.specs.Hop.{hop_number}
use Rattle.rules.specs.Check.{sound_number}
use Rattle.rules.specs.Retain.{retain_number}
use Rattle.rules.specs.Rebuild.{rebuild_number}
use Rattle.rules.specs.declared.Header.{Header}
use Rattle.rules.specs.declared.Key.{Key}
use Rattle.rules.specs.declared.steps.InsertLinks.{InsertLinks}
use Rattle.rules.specs.declared.steps.Beside.{Beside}
use Rattle.rules.proofs.Choice.{by_pick}

-- any other is never given; and a refusal's number is not 0
pub never : (ks : List ℕ) (n bad : ℕ) → Only ks n → one_of (0 ∷ ks) bad ≡ false → n ≢ bad
never ks n bad h f e = eqb-false 0 1 refl (cc)

pub listed : (ks : List ℕ) (n : ℕ) → Only ks n → eqb n 0 ≡ false → one_of ks n ≡ true
listed ks n h e = rw e at h.listed

-- a chain gives what it names; a call behind its number, what either gives
pub chain_only : (ks : List ℕ) (n k : ℕ) (t : Bool) → Only ks n → Only ks k → Only ks (n ▸ (t, k))
unfolding ◌▸◌
chain_only ks n k t h j = by_pick (Only ks) (eqb n 0) _ _ (λ _. by_pick (Only ks) t k 0 (λ _. j) (λ _. record { listed = refl })) (λ _. h)

pub unless_only : (ks l r : List ℕ) (hd : Header) (n : ℕ) (o : Outcome) → Only ks n → Only ks o.answer.number → Only ks (unless l r hd n o).answer.number
unfolding unless
unless_only ks l r hd n o h j = by_pick (λ (x : Outcome). Only ks x.answer.number) (eqb n 0) _ _ (λ _. j) (λ _. h)

-- segment by segment, then chain by chain; each asks that its numbers are among those listed
pub lent_chain : (ks : List ℕ) (links rows : ℕ) → Only ks shape → Only ks (lent_number links rows)
unfolding lent_number
lent_chain ks links rows a = search chain_only depth 8

module _ (ks l r : List ℕ) (hd : Header) where
  pub shape_chain : Only ks shape → Only ks (shape_number l r hd)
  unfolding shape_number header_number
  shape_chain a = search (chain_only, lent_chain)

  pub entry_chain : Only ks shape → Only ks damaged → Only ks (entry_number l r hd)
  unfolding entry_number zero_number
  entry_chain a b = search (chain_only, shape_chain)

  pub side_entry_chain : (side asked : ℕ) → Only ks shape → Only ks damaged → Only ks (side_entry_number l r hd side asked)
  unfolding side_entry_number zero_number side_number
  side_entry_chain side asked a b = search (chain_only, shape_chain)

  pub key_chain : (k : Key) → Only ks shape → Only ks damaged → Only ks even_version → Only ks not_live → Only ks (key_number l r hd k)
  unfolding key_number live_number
  key_chain k a b c d = search (chain_only, entry_chain)

  pub replace_chain : (k : Key) (side : List ℕ) → Only ks shape → Only ks damaged → Only ks even_version → Only ks not_live →
      Only ks (replace_number l r hd k side)
  unfolding replace_number live_number
  replace_chain k side a b c d = search (chain_only, side_entry_chain)

  pub insert_chain : (side : List ℕ) (x : InsertLinks) → Only ks shape → Only ks damaged → Only ks full → Only ks (insert_number l r hd side x)
  unfolding insert_number run_number take_number
  insert_chain side x a b c = search (chain_only, side_entry_chain) depth 12

  pub remove_chain : (x : Beside) → Only ks damaged → Only ks (remove_number l hd x)
  unfolding remove_number apart_number left_number right_number
  remove_chain x a = search chain_only depth 12

  pub slot_chain : (q : ℕ) → Only ks damaged → Only ks (slot_number l hd q)
  unfolding slot_number
  slot_chain q a = search chain_only

  pub hop_chain : (c back : ℕ) → Only ks damaged → Only ks stale_cursor → Only ks (hop_number l hd c back)
  unfolding hop_number
  hop_chain c back a b = search chain_only depth 8

  pub sound_chain : (n : ℕ) → Only ks n → Only ks damaged → Only ks (sound_number n l hd)
  unfolding sound_number
  sound_chain n a b = search chain_only

  pub retain_chain : (bytes : List ℕ) → Only ks shape → Only ks damaged → Only ks (retain_number l r hd bytes)
  unfolding retain_number
  retain_chain bytes a b = search (sound_chain, side_entry_chain)

  pub rebuild_chain : (bytes : List ℕ) → Only ks shape → Only ks wrong_presence → Only ks zero_occupied → Only ks (rebuild_number l r bytes)
  unfolding rebuild_number
  rebuild_chain bytes a b c = search (chain_only, lent_chain) depth 8
