-- One changed slot, one number in another's place, one more slot in use. Assumes nothing.
use mathlib.Core.Path.{◌≡◌, sym, ap, ◌∙◌}
use mathlib.Core.Logic.{◌≢◌}
use mathlib.Core.Bool.{Bool}
use Prim.Native.Nat.{ℕ, suc, ◌+◌, ◌<◌}
use native.Mathlib.Decide.{ℕ_discrete, dec_lt}
use native.Mathlib.Numerals.{add-one}
use native.Mathlib.Omega.{arith}
use lib.Dec.{ltb}
use borrow.Author.Tests.{eq-eqb, ne_eqb, lt-ltb, le-ltb}
use Rattle.rules.specs.Choice.{alike}
use Rattle.runs.specs.Points.{put}

pub alike_same : (a b : ℕ) → a ≡ b → alike a b ≡ 1
unfolding alike
alike_same a b h = simp (eq-eqb a b h)

pub alike_other : (a b : ℕ) → a ≢ b → alike a b ≡ 0
unfolding alike
alike_other a b h = simp (ne_eqb a b h)

pub put_same : {A : Type 0} (f : ℕ → A) (i : ℕ) (x : A) (k : ℕ) → k ≡ i → put f i x k ≡ x
unfolding put
put_same f i x k h = simp (eq-eqb k i h)

pub put_other : {A : Type 0} (f : ℕ → A) (i : ℕ) (x : A) (k : ℕ) → k ≢ i → put f i x k ≡ f k
unfolding put
put_other f i x k h = simp (ne_eqb k i h)

-- two changed slots
pub put2_last : (f : ℕ → ℕ) (a x b y k : ℕ) → k ≡ b → put (put f a x) b y k ≡ y
put2_last f a x b y k h = put_same (put f a x) b y k h

pub put2_first : (f : ℕ → ℕ) (a x b y k : ℕ) → k ≡ a → k ≢ b → put (put f a x) b y k ≡ x
put2_first f a x b y k h n = put_other (put f a x) b y k n ∙ put_same f a x k h

pub put2_other : (f : ℕ → ℕ) (a x b y k : ℕ) → k ≢ a → k ≢ b → put (put f a x) b y k ≡ f k
put2_other f a x b y k m n = put_other (put f a x) b y k n ∙ put_other f a x k m

-- below one more: the same of every other
pub below_next : (k n : ℕ) → k ≢ n → ltb k (suc n) ≡ ltb k n
below_next k n d = go (dec_lt k n)
  where
    go : Dec (k < n) → ltb k (suc n) ≡ ltb k n
    go (yes h) = lt-ltb k (suc n) (omega arith) ∙ sym (lt-ltb k n h)
    go (no h) = le-ltb k (suc n) (omega arith) ∙ sym (le-ltb k n (omega arith))

-- what asks whether a slot is in use, with one more in use and that one changed
pub more_in_use : {A : Type 0} (f : Bool → ℕ → A) (used : ℕ) (x : A) (k : ℕ) →
    put (λ j. f (ltb j (used + 1)) j) used x k ≡ put (λ j. f (ltb j used) j) used x k
more_in_use {A} f used x k = go (ℕ_discrete k used)
  where
    new : ℕ → A
    new = λ j. f (ltb j (used + 1)) j

    old : ℕ → A
    old = λ j. f (ltb j used) j

    go : Dec (k ≡ used) → put new used x k ≡ put old used x k
    go (yes e) = put_same new used x k e ∙ sym (put_same old used x k e)
    go (no n) =
        put_other new used x k n ∙ ap (λ (t : Bool). f t k) (ap (ltb k) (add-one used) ∙ below_next k used n) ∙ sym (put_other old used x k n)
