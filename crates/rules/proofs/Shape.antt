-- What the tests of shape, slot 0 and key tell where they passed. Assumes nothing.
use Prim.Native.Nat.{ℕ, ◌-◌, ◌*◌, ◌/◌, ◌%◌, ◌≤◌, ◌<◌}
use mathlib.Core.List.{List}
use mathlib.Core.Path.{◌≡◌}
use native.Mathlib.Omega.{arith}
use lib.ListN.{length}
use borrow.Author.Tests.{eqb-true, eqb-false, ltb-true, ltb-false, not-false}
use Rattle.rules.specs.Words.{limit, link_words, row_words, lent_of}
use Rattle.rules.specs.Refusals.{lent_number, header_number, shape_number, side_number, zero_number, live_key, live_number, entry_number, side_entry_number}
use Rattle.rules.specs.declared.Header.{Header}
use Rattle.rules.specs.declared.Key.{Key}
use Rattle.rules.proofs.Choice.{both_true}
use Rattle.rules.proofs.Refusals.{passed}

-- a lent count that link table and row table share, from 1 to the limit
pub record Lent (links rows lent : ℕ) : Type 0 where
  pub links_lent : links ≡ lent * link_words
  pub rows_lent : rows ≡ lent * row_words
  pub some : 1 ≤ lent
  pub most : lent ≤ limit

pub lent : (links rows : ℕ) → lent_number links rows ≡ 0 → Lent links rows (links / link_words)
unfolding lent_number
lent links rows e =
    let e₅ = passed _ _ _ (omega arith) e in
    let e₄ = passed _ _ _ (omega arith) e₅.0 in
    let e₃ = passed _ _ _ (omega arith) e₄.0 in
    let e₂ = passed _ _ _ (omega arith) e₃.0 in
    let e₁ = passed _ _ _ (omega arith) e₂.0 in
    let whole-links : links % link_words ≡ 0 = eqb-true _ _ (not-false _ e₁.1) in
    let whole-rows : rows % row_words ≡ 0 = eqb-true _ _ (not-false _ e₂.1) in
    let same : links / link_words ≡ rows / row_words = eqb-true _ _ (not-false _ e₃.1) in
    let some : links / link_words ≡ 0 → ⊥ = eqb-false _ _ e₄.1 in
    let most : links / link_words ≤ limit = ltb-false _ _ e₅.1 in
    record { links_lent = omega arith; rows_lent = omega arith; some = omega (arith, some); most = most }

pub record Shaped (l r : List ℕ) (hd : Header) : Type 0 where
  pub lent : Lent (length l) (length r) (lent_of l)
  pub some : 1 ≤ hd.used
  pub within : hd.used ≤ lent_of l
  pub few : hd.live < hd.used

pub shaped : (l r : List ℕ) (hd : Header) → shape_number l r hd ≡ 0 → Shaped l r hd
unfolding shape_number header_number
shaped l r hd e =
    let e₃ = passed _ _ _ (omega arith) e in
    let e₂ = passed _ _ _ (omega arith) e₃.0 in
    let e₁ = passed _ _ _ (omega arith) e₂.0 in
    let some : hd.used ≡ 0 → ⊥ = eqb-false _ _ e₁.1 in
    let few : hd.live ≤ hd.used - 1 = ltb-false _ _ e₃.1 in
    let one : 1 ≤ hd.used = omega (arith, some) in
    record {
      lent = lent _ _ e₁.0;
      some = one;
      within = ltb-false _ _ e₂.1;
      few = omega arith;
    }

-- past the tests of shape and slot 0
pub entered : (l r : List ℕ) (hd : Header) → entry_number l r hd ≡ 0 → Shaped l r hd
unfolding entry_number zero_number
entered l r hd e = shaped l r hd (passed _ _ _ (omega arith) e).0

-- and of a side buffer
pub side_entered : (l r : List ℕ) (hd : Header) (side n : ℕ) → side_entry_number l r hd side n ≡ 0 →
    Shaped l r hd × (side ≡ n)
unfolding side_entry_number zero_number side_number
side_entered l r hd side n e =
    let e₁ = passed _ _ _ (omega arith) (passed _ _ _ (omega arith) e).0 in
    (shaped l r hd e₁.0, eqb-true _ _ (not-false _ e₁.1))

-- past the tests of a key its slot is in use
pub held : (k : ℕ) (l : List ℕ) (hd : Header) (key : Key) → live_number k l hd key ≡ 0 →
    (k ≡ 0) × (key.index < hd.used)
unfolding live_number live_key
held k l hd key e =
    let e₂ = passed _ _ _ (omega arith) e in
    let e₁ = passed _ _ _ (omega arith) e₂.0 in
    (e₁.0, ltb-true _ _ (both_true _ _ (not-false _ e₂.1)).0)
