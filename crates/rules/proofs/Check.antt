-- The soundness check's parts, as the loops that carry it out meet them. Assumes nothing.
use Prim.Native.Nat.{ℕ, zero, suc, ◌+◌, ◌-◌, ◌<◌}
use mathlib.Core.List.{List}
use mathlib.Core.Bool.{Bool}
use mathlib.Core.Path.{◌≡◌, sym}
use native.Mathlib.Numerals.{add-one}
use native.Mathlib.Omega.{arith}
use lib.Dec.{eqb}
use borrow.Author.Tests.{eq-eqb, ne_eqb, eqb-true, eqb-false}
use Rattle.rules.specs.Choice.{pick, both}
use Rattle.rules.specs.Words.{next_at, vacant_by}
use Rattle.rules.specs.Runs.{front_of}
use Rattle.rules.specs.Check.{may_follow, circle_test}
use Rattle.rules.proofs.Choice.{by_test}

-- the front of the run at hand, one slot on
pub front_on : (v : ℕ → ℕ) (used i f : ℕ) → f ≡ front_of v used i → (g : ℕ) → g ≡ pick (vacant_by v used i) f (i + 1) →
    g ≡ front_of v used (i + 1)
unfolding front_of
front_on v used i f e g d = rw (add-one, d, e, add-one)

-- one step of the circle, from slot x to slot y, where there are steps left; t tells whether the chain may go there
pub circle_on : (l : List ℕ) (used n x : ℕ) → 0 < n → (left : ℕ) → left ≡ n - 1 → (y : ℕ) → y ≡ next_at l used x → (t : Bool) → t ≡ may_follow l used x y →
    circle_test l used n x ≡ both t (pick (eqb y 0) (eqb left 0) (circle_test l used left y))
unfolding circle_test
circle_on l used zero x h left less y to t may = absurd (omega arith)
circle_on l used (suc n) x h left less y to t may =
    let e : left ≡ n = omega arith in
    rw (e, may, to)

-- the last of so many steps is the one after which none is left
pub same_less : (i n : ℕ) → i < n → eqb i (n - 1) ≡ eqb (n - (i + 1)) 0
same_less i n h =
    by_test (λ (t : Bool). t ≡ eqb (n - (i + 1)) 0) (eqb i (n - 1))
    (λ e. sym (eq-eqb _ _ (omega (arith, eqb-true i (n - 1) e))))
    (λ e. sym (ne_eqb _ _ (λ z. eqb-false i (n - 1) e (omega arith))))
