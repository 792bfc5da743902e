-- On tables of the program's size start is not refused, and hands back a fresh header. Assumes nothing.
use Rattle.std.proofs.Common.{◌≡◌, ℕ, List, length, refl, ap, arith}
use Rattle.std.specs.Prelude.{Result, Ok, Err, ⊤}
use Rattle.rules.specs.Headers.{fresh}
use Rattle.rules.specs.Values.{Kind, gives, ends, refuses, Values, Outcome, done, of_done, handed, unless}
use Rattle.rules.specs.Refusals.{◌▸◌, lent_number}
use Rattle.rules.specs.Start.{start_rule}
use Rattle.rules.specs.declared.Header.{Header}
use Rattle.rules.specs.declared.Handed.{Handed}
use Rattle.rules.specs.declared.Refusal.{Refusal}

-- a refusal is not done
abbrev refusals : Kind → ℕ
refusals gives = 0
refusals ends = 0
refusals refuses = 1

well : (a : Result ⊤ Refusal) → of_done a ≡ done → a ≡ Ok tt
well (Ok x) h = refl
well (Err e) h = absurd (omega (arith, ap (λ (v : Values). refusals v.kind) h))

passes : (l r : List ℕ) → length l ≡ 4096 → length r ≡ 8192 → lent_number (length l) (length r) ≡ 0
unfolding lent_number ◌▸◌
passes l r el er = rw (el, er) refl

pub starts : (l r : List ℕ) (hd : Header) → length l ≡ 4096 → length r ≡ 8192 → (x : Handed ⊤) (l' r' : List ℕ) →
    handed of_done x l' r' ≡ start_rule l r hd → (x.answer ≡ Ok tt) × (x.header ≡ fresh)
unfolding start_rule unless
starts l r hd el er x l' r' e =
    let made = rw (passes l r el er) at e in
    (well x.answer (ap (λ (o : Outcome). o.answer) made), ap (λ (o : Outcome). o.header) made)
