-- One word of a link table: a write to a word of a slot in use is read again there, and nowhere else. Assumes nothing.
use mathlib.Core.Path.{◌≡◌, refl, sym, ◌∙◌}
use mathlib.Core.Logic.{◌≢◌}
use mathlib.Core.List.{List}
use mathlib.Core.Bool.{Bool, true, false}
use Prim.Native.Nat.{ℕ, ◌+◌, ◌*◌, ◌≤◌, ◌<◌}
use native.Mathlib.Decide.{ℕ_discrete, dec_lt}
use native.Mathlib.Omega.{arith}
use lib.ListN.{length, length-set}
use lib.Seq.{get_or-set_same, get_or-set_other}
use lib.Dec.{ltb, eqb}
use borrow.Author.Tests.{ltb-true, eqb-false, lt-ltb}
use Rattle.rules.specs.Choice.{both}
use Rattle.rules.specs.Words.{link_words, other_end_word, link_at, set_link}
use Rattle.rules.proofs.Choice.{by_picks, both_true}
use Rattle.runs.specs.Points.{put}
use Rattle.runs.proofs.Points.{put_same, put_other}

-- slot i is in use and the table has it: a test, so that `simp` can carry it through the writes
unfoldable pub holds : List ℕ → ℕ → ℕ → Bool
holds l used i = both (ltb i used) (ltb (i * link_words + other_end_word) (length l))

pub holds_below : (l : List ℕ) (used i : ℕ) → used * link_words ≤ length l → i < used → holds l used i ≡ true
unfolding holds
holds_below l used i h k = simp (lt-ltb i used k, lt-ltb (i * link_words + other_end_word) (length l) (omega arith))

pub length_link : (l : List ℕ) (i w x : ℕ) → length (set_link l i w x) ≡ length l
unfolding set_link
length_link l i w x = length-set l (i * link_words + w) x

pub holds_link : (l : List ℕ) (i w x used k : ℕ) → holds (set_link l i w x) used k ≡ holds l used k
unfolding holds
holds_link l i w x used k = simp length_link

-- the word that is written
pub link_put : (l : List ℕ) (i w x used k : ℕ) → holds l used i ≡ true → ltb w link_words ≡ true →
    link_at (set_link l i w x) used k w ≡ put (λ j. link_at l used j w) i x k
unfolding link_at set_link holds
link_put l i w x used k h c = go (ℕ_discrete k i)
  where
    low : ltb i used ≡ true
    low = (both_true (ltb i used) _ h).0

    within : i * link_words + w < length l
    within = omega (arith, ltb-true (i * link_words + other_end_word) (length l) (both_true (ltb i used) _ h).1, ltb-true w link_words c)

    go : Dec (k ≡ i) → link_at (set_link l i w x) used k w ≡ put (λ j. link_at l used j w) i x k
    go (yes e) = rw e (simp (low, get_or-set_same l (i * link_words + w) x 0 within) (sym (put_same (λ j. link_at l used j w) i x i refl)))
    go (no n) =
        by_picks ◌≡◌ (ltb k used) _ _ _ _ (λ _. get_or-set_other l (i * link_words + w) (k * link_words + w) x 0 (λ t. omega arith)) (λ _. refl)
        ∙ sym (put_other (λ j. link_at l used j w) i x k n)

-- another word
pub link_other : (l : List ℕ) (i w x used k w' : ℕ) → eqb w w' ≡ false → ltb w link_words ≡ true → ltb w' link_words ≡ true →
    link_at (set_link l i w x) used k w' ≡ link_at l used k w'
unfolding link_at set_link
link_other l i w x used k w' n c c' =
    by_picks ◌≡◌ (ltb k used) _ _ _ _ (λ _. get_or-set_other l (i * link_words + w) (k * link_words + w') x 0 apart) (λ _. refl)
  where
    apart : k * link_words + w' ≢ i * link_words + w
    apart t = go (dec_lt k i) (dec_lt i k)
      where
        go : Dec (k < i) → Dec (i < k) → ⊥
        go (yes a) _ = omega (arith, ltb-true w link_words c, ltb-true w' link_words c')
        go (no a) (yes b) = omega (arith, ltb-true w link_words c, ltb-true w' link_words c')
        go (no a) (no b) = eqb-false w w' n (omega arith)
