-- Lists that agree in their first n words, and tables that agree below a slot: what is read there is the same, and after
-- the same write they agree again, one slot further where the write fills the slot at the edge. Assumes nothing.
use Prim.Native.Nat.{ℕ, zero, suc, ◌+◌, ◌*◌, ◌≤◌, ◌<◌}
use mathlib.Core.List.{List, [], ◌∷◌, ◌++◌}
use mathlib.Core.Bool.{true}
use mathlib.Core.Path.{◌≡◌, refl, sym, ap, subst, fun_ext, ◌∙◌}
use native.Mathlib.Decide.{dec_lt}
use native.Mathlib.Omega.{arith}
use lib.ListN.{length, get_or, set, take, drop, length-set}
use lib.Seq.{get_or-take, take-set-lt, take-set-le, take-suc-set, take_all, take-take, take-add, set_out, drop_at, length-take-le, paste, paste-zero, paste-suc}
use lib.Dec.{ltb, leb, eqb}
use borrow.Author.Tests.{ltb-true, leb-true, eqb-true}
use Rattle.rules.specs.Choice.{pick, both}
use Rattle.rules.specs.Words.{link_words, row_words, version_word, next_word, prev_word, other_end_word, link_at, version_at, set_link, new_slot, row_within, row_at, set_row, zero_row}
use Rattle.rules.specs.NeverRead.{AgreeTo}
use Rattle.rules.proofs.Choice.{by_picks, both_true}
use Rattle.rules.proofs.Rows.{set_row_lem}

by_equal : (n : ℕ) (a a' b b' : List ℕ) → a ≡ a' → b ≡ b' → AgreeTo n a b → AgreeTo n a' b'
by_equal n a a' b b' p q g =
    record {
      lengths = sym (ap length p) ∙ g.lengths ∙ ap length q;
      words = sym (ap (take n) p) ∙ g.words ∙ ap (take n) q;
    }

moved : (m n : ℕ) (a b : List ℕ) → m ≡ n → AgreeTo m a b → AgreeTo n a b
moved m n a b e g = subst (λ (k : ℕ). AgreeTo k a b) e g

-- a word below the edge is the same
pub same_word : (n : ℕ) (a b : List ℕ) → AgreeTo n a b → (i : ℕ) → i < n → get_or a i 0 ≡ get_or b i 0
same_word n a b g i h = sym (get_or-take n a i 0 h) ∙ ap (λ (w : List ℕ). get_or w i 0) g.words ∙ get_or-take n b i 0 h

-- one word written: anywhere, and at the edge
pub set_agrees : (n : ℕ) (a b : List ℕ) → AgreeTo n a b → (i x : ℕ) → AgreeTo n (set a i x) (set b i x)
set_agrees n a b g i x = record { lengths = length-set a i x ∙ g.lengths ∙ sym (length-set b i x); words = at (dec_lt i n) }
  where
    at : Dec (i < n) → take n (set a i x) ≡ take n (set b i x)
    at (yes h) = take-set-lt n a i x h ∙ ap (λ (w : List ℕ). set w i x) g.words ∙ sym (take-set-lt n b i x h)
    at (no h) = let e : n ≤ i = omega arith in take-set-le n a i x e ∙ g.words ∙ sym (take-set-le n b i x e)

pub edge_agrees : (n : ℕ) (a b : List ℕ) → AgreeTo n a b → (x : ℕ) → AgreeTo (suc n) (set a n x) (set b n x)
edge_agrees n a b g x =
    record { lengths = length-set a n x ∙ g.lengths ∙ sym (length-set b n x); words = at (dec_lt n (length a)) }
  where
    past : (c : List ℕ) → length c ≤ n → take (suc n) (set c n x) ≡ take n c
    past c h = ap (take (suc n)) (set_out c n x h) ∙ take_all (suc n) c (omega arith) ∙ sym (take_all n c h)

    at : Dec (n < length a) → take (suc n) (set a n x) ≡ take (suc n) (set b n x)
    at (yes h) =
        take-suc-set a n x h ∙ ap (λ (w : List ℕ). w ++ (x ∷ [])) g.words ∙ sym (take-suc-set b n x (omega (arith, g.lengths)))
    at (no h) = past a (omega arith) ∙ g.words ∙ sym (past b (omega (arith, g.lengths)))

-- words pasted one after another: anywhere, and from the edge on
module _ (at : ℕ) (s a b : List ℕ) where
  turn : (n k : ℕ) → length a ≡ length b → at + suc k ≤ length a → suc k ≤ length s →
      AgreeTo n (set (paste a at s k) (at + k) (get_or s k 0)) (set (paste b at s k) (at + k) (get_or s k 0)) →
      AgreeTo n (paste a at s (suc k)) (paste b at s (suc k))
  turn n k e h j g =
      by_equal n _ _ _ _ (paste-suc a at s k 0 (omega arith) (omega arith)) (paste-suc b at s k 0 (omega arith) (omega arith)) g

  pub paste_agrees : (n : ℕ) → AgreeTo n a b → (k : ℕ) → at + k ≤ length a → k ≤ length s → AgreeTo n (paste a at s k) (paste b at s k)
  paste_agrees n g zero h j = by_equal n _ _ _ _ (paste-zero a at s) (paste-zero b at s) g
  paste_agrees n g (suc k) h j =
      turn n k g.lengths h j (set_agrees n _ _ (paste_agrees n g k (omega arith) (omega arith)) (at + k) (get_or s k 0))

  pub paste_edge_agrees : AgreeTo at a b → (k : ℕ) → at + k ≤ length a → k ≤ length s → AgreeTo (at + k) (paste a at s k) (paste b at s k)
  paste_edge_agrees g zero h j = moved at (at + 0) _ _ (omega arith) (by_equal at _ _ _ _ (paste-zero a at s) (paste-zero b at s) g)
  paste_edge_agrees g (suc k) h j =
      moved (suc (at + k)) (at + suc k) _ _ (omega arith) (turn (suc (at + k)) k g.lengths h j (edge_agrees (at + k) _ _ (paste_edge_agrees g k (omega arith) (omega arith)) (get_or s k 0)))

-- link words below slot m: read, written, and slot m filled
module _ (m : ℕ) (l l' : List ℕ) (g : AgreeTo (m * link_words) l l') where
  pub same_link : (i w : ℕ) → ltb w link_words ≡ true → link_at l m i w ≡ link_at l' m i w
  unfolding link_at
  same_link i w h =
      by_picks ◌≡◌ (ltb i m) _ _ _ _
      (λ e.
      let below = ltb-true i m e in
      let within = ltb-true w link_words h in
      same_word (m * link_words) l l' g (i * link_words + w) (omega arith))
      (λ _. refl)

  -- the versions as a function of the slot, as runs are told by them
  pub same_versions : version_at l m ≡ version_at l' m
  same_versions = fun_ext (λ i. same_link i version_word refl)

pub link_agrees : (n : ℕ) (l l' : List ℕ) → AgreeTo n l l' → (i w x : ℕ) → AgreeTo n (set_link l i w x) (set_link l' i w x)
unfolding set_link
link_agrees n l l' g i w x = set_agrees n l l' g (i * link_words + w) x

word_filled : (n i : ℕ) (a b : List ℕ) → i ≡ n → AgreeTo n a b → (x : ℕ) → AgreeTo (suc n) (set a i x) (set b i x)
word_filled n i a b e g x = subst (λ (k : ℕ). AgreeTo (suc n) (set a k x) (set b k x)) (sym e) (edge_agrees n a b g x)

pub slot_filled : (m : ℕ) (l l' : List ℕ) → AgreeTo (m * link_words) l l' → (v : ℕ) →
    AgreeTo ((m + 1) * link_words) (new_slot l m v) (new_slot l' m v)
unfolding new_slot set_link
slot_filled m l l' g v =
    let n = m * link_words in
    let g₁ = word_filled n (n + version_word) l l' (omega arith) g v in
    let g₂ = word_filled (suc n) (n + next_word) _ _ (omega arith) g₁ 0 in
    let g₃ = word_filled (suc (suc n)) (n + prev_word) _ _ (omega arith) g₂ 0 in
    let g₄ = word_filled (suc (suc (suc n))) (n + other_end_word) _ _ (omega arith) g₃ 0 in
    moved _ ((m + 1) * link_words) _ _ (omega arith) g₄

-- rows below slot m: read, written, and row m filled
part_of : (at k n : ℕ) (a : List ℕ) → at + k ≤ n → at ≤ length a → take k (drop at a) ≡ drop at (take (at + k) (take n a))
part_of at k n a h j =
    sym (drop_at (take at a) (take k (drop at a)) at (length-take-le at a j)) ∙ ap (drop at) (sym (take-add at k a)) ∙ ap (drop at) (sym (take-take (at + k) n a h))

pub same_part : (at k n : ℕ) (a b : List ℕ) → AgreeTo n a b → at + k ≤ n → at ≤ length a → take k (drop at a) ≡ take k (drop at b)
same_part at k n a b g h j =
    part_of at k n a h j ∙ ap (λ (w : List ℕ). drop at (take (at + k) w)) g.words ∙ sym (part_of at k n b h (omega (arith, g.lengths)))

pub same_row : (m : ℕ) (r r' : List ℕ) → AgreeTo (m * row_words) r r' → (i : ℕ) → row_at r m i ≡ row_at r' m i
unfolding row_at
same_row m r r' g i =
    by_picks ◌≡◌ (both (ltb i m) (row_within r i)) _ _ _ _
    (λ e.
    let f = both_true _ _ e in
    let below = ltb-true i m f.0 in
    let within = leb-true (i * row_words + row_words) (length r) f.1 in
    same_part (i * row_words) row_words (m * row_words) r r' g (omega arith) (omega arith))
    (λ _. refl)
    ∙ ap (λ (n : ℕ). pick (both (ltb i m) (leb (i * row_words + row_words) n)) (take row_words (drop (i * row_words) r')) zero_row) g.lengths

pub row_agrees : (n : ℕ) (r r' : List ℕ) → AgreeTo n r r' → (i : ℕ) (s : List ℕ) → AgreeTo n (set_row r i s) (set_row r' i s)
unfolding set_row
row_agrees n r r' g i s =
    by_equal n _ _ _ _ refl
    (ap (λ (k : ℕ). pick (both (eqb (length s) row_words) (leb (i * row_words + row_words) k)) (paste r' (i * row_words) s row_words) r') g.lengths)
    (by_picks (AgreeTo n) (both (eqb (length s) row_words) (row_within r i)) _ _ _ _
    (λ e.
    let f = both_true _ _ e in
    let whole = eqb-true (length s) row_words f.0 in
    paste_agrees (i * row_words) s r r' n g row_words (leb-true _ _ f.1) (omega arith))
    (λ _. g))

pub row_filled : (m : ℕ) (r r' s : List ℕ) → AgreeTo (m * row_words) r r' → length s ≡ row_words → m * row_words + row_words ≤ length r →
    AgreeTo ((m + 1) * row_words) (set_row r m s) (set_row r' m s)
row_filled m r r' s g h j =
    by_equal _ _ _ _ _ (sym (set_row_lem r m s h j)) (sym (set_row_lem r' m s h (omega (arith, g.lengths))))
    (moved _ ((m + 1) * row_words) _ _ (omega arith) (paste_edge_agrees (m * row_words) s r r' g row_words j (omega arith)))
