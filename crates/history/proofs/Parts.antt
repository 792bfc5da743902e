-- Eight words written through the part that look_mut hands out: the row of a live key, and nothing for any other. Assumes nothing.
use mathlib.Core.Path.{◌≡◌, sym, ap, ◌∙◌}
use mathlib.Core.Logic.{◌≢◌}
use mathlib.Core.List.{List}
use Prim.Native.Nat.{ℕ}
use lib.ListN.{length}
use lib.Seq.{paste, paste-zero}
use borrow.Author.Tests.{eq-eqb, le-leb}
use Rattle.rules.specs.Words.{set_row}
use Rattle.rules.specs.Access.{key_number, look_start}
use Rattle.rules.specs.declared.Header.{Header}
use Rattle.rules.specs.declared.Key.{Key}
use Rattle.rules.proofs.Access.{live_within, missed, found, found_length}
use Rattle.history.specs.Calls.{Row, write_rule}

module _ (l r : List ℕ) (hd : Header) (k : Key) (row : Row) where
  pub written_live : key_number l r hd k ≡ 0 → (write_rule l r hd k row).rows ≡ set_row r k.index row.words
  unfolding set_row
  written_live e =
      simp (eq-eqb _ _ row.eight, le-leb _ _ (live_within l r hd k e).1) (cc ((found l r hd k e).0, found_length l r hd k e))

  pub written_none : key_number l r hd k ≢ 0 → (write_rule l r hd k row).rows ≡ r
  written_none n =
      ap (λ (x : List ℕ). paste r (look_start l r hd k) row.words (length x)) (missed l r hd k n).1
      ∙ sym (paste-zero r (look_start l r hd k) row.words)
