-- A link table as functions of the slot, one for each word: a write to a word of a slot in use changes that function at that
-- slot and no other, and a slot that comes into use changes all four at that slot. Assumes nothing.
use mathlib.Core.Path.{◌≡◌, fun_ext, refl}
use mathlib.Core.List.{List}
use mathlib.Core.Bool.{true, false}
use Prim.Native.Nat.{ℕ, zero, suc, ◌+◌, ◌*◌}
use native.Mathlib.Omega.{arith}
use lib.ListN.{length, get_or}
use lib.Dec.{ltb, eqb}
use borrow.Author.Tests.{ltb-true}
use Rattle.rules.specs.Choice.{pick}
use Rattle.rules.specs.Words.{link_words, version_word, next_word, prev_word, other_end_word, link_at, set_link, version_at, next_at, prev_at, other_end_at, set_version, set_next, set_prev, set_other_end, new_slot}
use Rattle.runs.specs.Points.{put}
use Rattle.runs.proofs.Points.{more_in_use}
use Rattle.runs.proofs.Words.{holds, length_link, holds_link, link_put, link_other}

-- the same of the four readers, as functions: so `simp (words, ..)` turns any number of writes into changed slots
module _ (l : List ℕ) (i x used : ℕ) (h : holds l used i ≡ true) where
  pub version_put : version_at (set_version l i x) used ≡ put (version_at l used) i x
  version_put = fun_ext λ k. link_put l i version_word x used k h refl

  pub next_put : next_at (set_next l i x) used ≡ put (next_at l used) i x
  next_put = fun_ext λ k. link_put l i next_word x used k h refl

  pub prev_put : prev_at (set_prev l i x) used ≡ put (prev_at l used) i x
  prev_put = fun_ext λ k. link_put l i prev_word x used k h refl

  pub other_end_put : other_end_at (set_other_end l i x) used ≡ put (other_end_at l used) i x
  other_end_put = fun_ext λ k. link_put l i other_end_word x used k h refl

module _ (l : List ℕ) (i w x used : ℕ) (h : ltb w link_words ≡ true) where
  pub version_stays : eqb w version_word ≡ false → version_at (set_link l i w x) used ≡ version_at l used
  version_stays n = fun_ext λ k. link_other l i w x used k version_word n h refl

  pub next_stays : eqb w next_word ≡ false → next_at (set_link l i w x) used ≡ next_at l used
  next_stays n = fun_ext λ k. link_other l i w x used k next_word n h refl

  pub prev_stays : eqb w prev_word ≡ false → prev_at (set_link l i w x) used ≡ prev_at l used
  prev_stays n = fun_ext λ k. link_other l i w x used k prev_word n h refl

  pub other_end_stays : eqb w other_end_word ≡ false → other_end_at (set_link l i w x) used ≡ other_end_at l used
  other_end_stays n = fun_ext λ k. link_other l i w x used k other_end_word n h refl

pub ruleset words = (link_put, link_other, version_put, next_put, prev_put, other_end_put, version_stays, next_stays, prev_stays, other_end_stays, holds_link, length_link)

-- A slot that comes into use: its version is as given, its links are zero
module _ (l : List ℕ) (used v : ℕ) (h : holds l (used + 1) used ≡ true) where
  more : (w x k : ℕ) → put (λ j. link_at l (used + 1) j w) used x k ≡ put (λ j. link_at l used j w) used x k
  unfolding link_at
  more w x k = more_in_use (λ t j. pick t (get_or l (j * link_words + w) 0) 0) used x k

  pub new_link : (k w : ℕ) → ltb w link_words ≡ true →
      link_at (new_slot l used v) (used + 1) k w ≡ put (λ j. link_at l used j w) used (pick (eqb w version_word) v 0) k
  unfolding new_slot
  new_link k zero c = simp (words, h) (more version_word v k)
  new_link k (suc zero) c = simp (words, h) (more next_word 0 k)
  new_link k (suc (suc zero)) c = simp (words, h) (more prev_word 0 k)
  new_link k (suc (suc (suc zero))) c = simp (words, h) (more other_end_word 0 k)
  new_link k (suc (suc (suc (suc w)))) c = absurd (omega (arith, ltb-true (suc (suc (suc (suc w)))) link_words c))

  pub new_version : version_at (new_slot l used v) (used + 1) ≡ put (version_at l used) used v
  new_version = fun_ext λ k. new_link k version_word refl

  pub new_next : next_at (new_slot l used v) (used + 1) ≡ put (next_at l used) used 0
  new_next = fun_ext λ k. new_link k next_word refl

  pub new_prev : prev_at (new_slot l used v) (used + 1) ≡ put (prev_at l used) used 0
  new_prev = fun_ext λ k. new_link k prev_word refl

  pub new_other_end : other_end_at (new_slot l used v) (used + 1) ≡ put (other_end_at l used) used 0
  new_other_end = fun_ext λ k. new_link k other_end_word refl

pub length_slot : (l : List ℕ) (i v : ℕ) → length (new_slot l i v) ≡ length l
unfolding new_slot
length_slot l i v = simp length_link

pub ruleset new_words = (new_link, new_version, new_next, new_prev, new_other_end, length_slot)
