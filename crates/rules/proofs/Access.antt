-- Where the rows lie that looks and replace are about, and that they are within the table. Assumes nothing.
use Prim.Native.Nat.{ℕ, ◌+◌, ◌-◌, ◌*◌, ◌≤◌, ◌<◌}
use mathlib.Core.List.{List, []}
use mathlib.Core.Path.{◌≡◌, refl, sym, ap, ◌∙◌}
use denote.Ref.{Bor}
use native.Mathlib.Decide.{ℕ_discrete}
use native.Mathlib.Nat.{add-sub_cancel_left}
use native.Mathlib.Omega.{arith}
use lib.ListN.{length, take, drop, length-take, length-drop}
use borrow.Author.Tests.{eq-eqb, ne_eqb, lt-ltb, le-leb}
use Rattle.rules.specs.Words.{row_words, row_at}
use Rattle.rules.specs.Access.{key_number, look_rule, look_start, StartsAt, RowPart, replace_number}
use Rattle.rules.specs.declared.Header.{Header}
use Rattle.rules.specs.declared.Key.{Key}
use Rattle.rules.proofs.Shape.{Shaped, entered, side_entered, held}

-- a slot in use has its row within the table
pub row_within_lem : (l r : List ℕ) (hd : Header) (i : ℕ) → Shaped l r hd → i < hd.used → i * row_words + row_words ≤ length r
row_within_lem l r hd i s h = omega (arith, s.within, s.lent.rows_lent)

-- a live key's slot is in use, and its row within the table
pub live_within : (l r : List ℕ) (hd : Header) (k : Key) → key_number l r hd k ≡ 0 →
    (k.index < hd.used) × (k.index * row_words + row_words ≤ length r)
unfolding key_number
live_within l r hd k h =
    let e = held _ l hd k h in
    (e.1, row_within_lem l r hd k.index (entered _ _ _ e.0) e.1)

-- where a look's part starts and what it holds: for a live key its row, for any other nothing
module _ (l r : List ℕ) (hd : Header) (k : Key) where
  pub missed : (key_number l r hd k ≡ 0 → ⊥) → (look_start l r hd k ≡ 0) × (look_rule l r hd k ≡ [])
  unfolding look_start look_rule
  missed h = (simp (ne_eqb _ _ h), simp (ne_eqb _ _ h))

  pub found : key_number l r hd k ≡ 0 →
      (look_start l r hd k ≡ k.index * row_words) × (look_rule l r hd k ≡ take row_words (drop (k.index * row_words) r))
  unfolding look_start look_rule row_at
  found h =
      let e = live_within l r hd k h in
      (simp (eq-eqb _ _ h), simp (eq-eqb _ _ h, lt-ltb _ _ e.0, le-leb _ _ e.1))

  pub found_length : key_number l r hd k ≡ 0 → length (look_rule l r hd k) ≡ row_words
  found_length h =
      let e = live_within l r hd k h in
      ap length (found h).1 ∙ simp (length-take, length-drop) (omega arith)

  -- it is a part of the rows that were lent
  pub look_within : look_start l r hd k + length (look_rule l r hd k) ≤ length r
  look_within = at (ℕ_discrete (key_number l r hd k) 0)
    where
      at : Dec (key_number l r hd k ≡ 0) → look_start l r hd k + length (look_rule l r hd k) ≤ length r
      at (yes h) = omega (arith, (found h).0, found_length h, (live_within l r hd k h).1)
      at (no h) = omega (arith, (missed h).0, ap length (missed h).1)

  pub look_part : take (length (look_rule l r hd k)) (drop (look_start l r hd k) r) ≡ look_rule l r hd k
  look_part = at (ℕ_discrete (key_number l r hd k) 0)
    where
      at : Dec (key_number l r hd k ≡ 0) → take (length (look_rule l r hd k)) (drop (look_start l r hd k) r) ≡ look_rule l r hd k
      at (yes h) = rw (found_length h, (found h).0) (sym (found h).1)
      at (no h) = rw (missed h).1 refl

-- so a part from start to end that is cut out there keeps the look's promise
pub part_lies : (l : List ℕ) (rows : Bor (List ℕ)) (hd : Header) (k : Key) (part : Bor (List ℕ)) (start end : ℕ) →
    start ≡ look_start l rows.now hd k → end ≡ look_start l rows.now hd k + length (look_rule l rows.now hd k) →
    part.now ≡ take (end - start) (drop start rows.now) → StartsAt part rows start → RowPart l rows hd k part
part_lies l rows hd k part start end s e words place =
    record {
      words = words ∙ simp (e, s, add-sub_cancel_left) (look_part l rows.now hd k);
      place = rw s at place;
    }

-- past replace's tests the row is within the table and the side buffer is a row
pub replace_within : (l r : List ℕ) (hd : Header) (k : Key) (side : List ℕ) → replace_number l r hd k side ≡ 0 →
    (k.index * row_words + row_words ≤ length r) × (length side ≡ row_words)
unfolding replace_number
replace_within l r hd k side h =
    let e = held _ l hd k h in
    let s = side_entered l r hd (length side) row_words e.0 in
    (row_within_lem l r hd k.index s.0 e.1, s.1)
