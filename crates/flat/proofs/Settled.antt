-- No two different results meet one promise of the C surface, and nothing of an outcome is lost in its flat form: the numbers of the kinds are
-- apart. Assumes nothing.
use Prim.Native.Nat.{ℕ}
use mathlib.Core.List.{List}
use mathlib.Core.Path.{◌≡◌, refl, sym, ap, ◌∙◌}
use lib.Dec.{eqb}
use Rattle.rules.specs.Choice.{pick}
use Rattle.rules.specs.Values.{Kind, gives, ends, refuses, Outcome}
use Rattle.flat.specs.Flat.{kind_number, Surfaced, surfaced, flattened}
use Rattle.flat.specs.declared.Answer.{Answer}

-- the answer and both tables at exit are settled by the outcome, whatever call it is of
pub settled : (o : Outcome) (x y : Answer) (l m r s : List ℕ) → surfaced x l r ≡ flattened o → surfaced y m s ≡ flattened o → (x ≡ y) × (l ≡ m) × (r ≡ s)
settled o x y l m r s p q =
    let e = p ∙ sym q in
    (ap (λ (w : Surfaced). w.answer) e, ap (λ (w : Surfaced). w.links) e, ap (λ (w : Surfaced). w.rows) e)

abbrev kind_of : ℕ → Kind
kind_of n = pick (eqb n 0) gives (pick (eqb n 1) ends refuses)

kind_back : (k : Kind) → kind_of (kind_number k) ≡ k
kind_back gives = refl
kind_back ends = refl
kind_back refuses = refl

pub kinds_apart : (j k : Kind) → kind_number j ≡ kind_number k → j ≡ k
kinds_apart j k e = sym (kind_back j) ∙ ap kind_of e ∙ kind_back k

abbrev with_kind : Kind → Surfaced → Outcome
with_kind k w =
    record {
      answer = record {
        kind = k;
        number = w.answer.number;
        key = w.answer.key;
        cursor = w.answer.cursor;
        count = w.answer.count;
      };
      row = w.answer.row;
      header = w.answer.header;
      links = w.links;
      rows = w.rows;
    }

abbrev outcome_of : Surfaced → Outcome
outcome_of w = with_kind (kind_of w.answer.kind) w

outcome_back : (o : Outcome) → outcome_of (flattened o) ≡ o
outcome_back o = ap (λ (k : Kind). with_kind k (flattened o)) (kind_back o.answer.kind)

pub outcomes_apart : (o p : Outcome) → flattened o ≡ flattened p → o ≡ p
outcomes_apart o p e = sym (outcome_back o) ∙ ap outcome_of e ∙ outcome_back p
