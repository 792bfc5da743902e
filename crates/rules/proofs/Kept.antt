-- What is written below a slot leaves the tables from that slot upward. Assumes nothing.
use Prim.Native.Nat.{ℕ, ◌+◌, ◌-◌, ◌*◌, ◌≤◌, ◌<◌}
use mathlib.Core.List.{List}
use mathlib.Core.Bool.{true}
use mathlib.Core.Path.{◌≡◌, refl, sym, ap, ◌∙◌}
use native.Mathlib.Omega.{arith}
use lib.ListN.{length, drop}
use lib.Seq.{drop-set-lt, drop-drop, drop-paste, paste}
use lib.Dec.{ltb, eqb}
use borrow.Author.Tests.{ltb-true, leb-true, eqb-true}
use Rattle.rules.specs.Choice.{both}
use Rattle.rules.specs.Words.{link_words, row_words, set_link, new_slot, row_within, set_row}
use Rattle.rules.specs.Values.{Outcome, unless}
use Rattle.rules.specs.NeverRead.{reached, Kept}
use Rattle.rules.specs.declared.Header.{Header}
use Rattle.rules.proofs.Choice.{by_pick, both_true}

-- l' is l from slot m upward
abbrev pub LinksKept : ℕ → List ℕ → List ℕ → Type 0
LinksKept m l l' = drop (m * link_words) l' ≡ drop (m * link_words) l

-- a link word; a slot; a row
pub link_kept : (m : ℕ) (l : List ℕ) (i w x : ℕ) → i < m → ltb w link_words ≡ true → LinksKept m l (set_link l i w x)
unfolding set_link
link_kept m l i w x h j =
    let within = ltb-true w link_words j in
    drop-set-lt (m * link_words) l (i * link_words + w) x (omega arith)

pub slot_kept : (l : List ℕ) (i v : ℕ) → LinksKept (i + 1) l (new_slot l i v)
unfolding new_slot
slot_kept l i v =
    let below : i < i + 1 = omega arith in
    simp link_kept

paste_kept : (n at k : ℕ) (r s : List ℕ) → at + k ≤ n → at ≤ length r → k ≤ length s → drop n (paste r at s k) ≡ drop n r
paste_kept n at k r s h i j =
    let e : at + k + (n - (at + k)) ≡ n = omega arith in
    ap (λ (x : ℕ). drop x (paste r at s k)) (sym e)
    ∙ sym (drop-drop (n - (at + k)) (at + k) (paste r at s k))
    ∙ ap (drop (n - (at + k))) (drop-paste r at s k i j)
    ∙ drop-drop (n - (at + k)) (at + k) r
    ∙ ap (λ (x : ℕ). drop x r) e

pub row_kept : (m : ℕ) (r : List ℕ) (i : ℕ) (s : List ℕ) → i < m → drop (m * row_words) (set_row r i s) ≡ drop (m * row_words) r
unfolding set_row
row_kept m r i s h =
    by_pick (λ (w : List ℕ). drop (m * row_words) w ≡ drop (m * row_words) r) (both (eqb (length s) row_words) (row_within r i)) _ _
    (λ e.
    let f = both_true _ _ e in
    let whole = eqb-true (length s) row_words f.0 in
    let within = leb-true (i * row_words + row_words) (length r) f.1 in
    paste_kept (m * row_words) (i * row_words) row_words r s (omega arith) (omega arith) (omega arith))
    (λ _. refl)

-- an outcome that leaves the tables as they were past where they are known
abbrev pub Keeps : ℕ → List ℕ → List ℕ → Outcome → Type 0
Keeps m l r o = Kept (reached m o) l r o

-- a refusal keeps everything
pub unless_kept : (m : ℕ) (l r : List ℕ) (hd : Header) (n : ℕ) (o : Outcome) → (n ≡ 0 → Keeps m l r o) → Keeps m l r (unless l r hd n o)
unfolding unless
unless_kept m l r hd n o h =
    by_pick (Keeps m l r) (eqb n 0) _ _ (λ e. h (eqb-true n 0 e)) (λ _. record { links = refl; rows = refl })
