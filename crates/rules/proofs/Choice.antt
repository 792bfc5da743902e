-- A test taken apart, with the fact that each answer gives. Assumes nothing.
use mathlib.Core.Bool.{Bool, true, false}
use mathlib.Core.Path.{◌≡◌, refl}
use borrow.Author.Tests.{eqb-false}
use Rattle.rules.specs.Choice.{pick, both}

-- what holds under either answer holds of the test
pub by_test : (P : Bool → Type 0) (t : Bool) → (t ≡ true → P true) → (t ≡ false → P false) → P t
by_test P true h j = h refl
by_test P false h j = j refl

-- the same of a choice, and of two choices by one test
pub by_pick : {A : Type 0} (P : A → Type 0) (t : Bool) (a b : A) → (t ≡ true → P a) → (t ≡ false → P b) → P (pick t a b)
by_pick P t a b h j = by_test (λ (u : Bool). P (pick u a b)) t h j

pub by_picks : {A : Type 0} (R : A → A → Type 0) (t : Bool) (a a' b b' : A) → (t ≡ true → R a a') → (t ≡ false → R b b') →
    R (pick t a b) (pick t a' b')
by_picks R t a a' b b' h j = by_test (λ (u : Bool). R (pick u a b) (pick u a' b')) t h j

pub both_true : (a b : Bool) → both a b ≡ true → (a ≡ true) × (b ≡ true)
both_true true b e = (refl, e)
both_true false b e = absurd (eqb-false 0 1 refl (cc))

pub both_false : (a b : Bool) → both a b ≡ false → a ≡ true → b ≡ false
both_false a b e h = rw h at e

pub both_if : (a b : Bool) → (a ≡ true → b ≡ false) → both a b ≡ false
both_if true b h = h refl
both_if false b h = refl
