use Rattle.std.proofs.Common.{◌≡◌, ℕ, ◌+◌, ◌-◌, ◌<◌, ◌≤◌, List, get_or, ◌∙◌, drop, length-drop, rules, arith}
use Rattle.std.specs.List.{AllWithin}
use Rattle.std.proofs.lemmas.List.{get_or-drop, take_rest}
use Rattle.std.proofs.lemmas.Iterator.{YieldsList-from_slice, IsFirst-from_position}
use borrow.Author.Tests.{tests}
use Rattle.replay.proofs.language.find.Goals as goal

-- a byte that is nowhere in the rest of a text, up to a place, is nowhere in the text from there on
not_before : (text : List ℕ) (start place k byte : ℕ) → AllWithin (λ x. x ≡ byte → ⊥) (drop start text) 0 place
    → start ≤ k → k < start + place → get_or text k 0 ≡ byte → ⊥
not_before text start place k byte none low high e =
    let at : get_or (drop start text) (k - start) 0 ≡ get_or text (start + (k - start)) 0 = get_or-drop start text (k - start) 0 in
    let same : start + (k - start) ≡ k = omega arith in
    none (k - start) 0 (omega arith) (omega arith) (rw (at, same) e)

pub returns-in-Some-clause-before : goal.returns-in-Some-clause-before
returns-in-Some-clause-before c =
    let searched = YieldsList-from_slice (drop c.min-start.result c.args.text.now) (c.iter.ensures.rest ∙ take_rest c.args.text.now c.min-start.result) in
    let first = IsFirst-from_position _ _ _ (λ (x : ℕ). x ≡ c.args.byte) (λ (x : ℕ). x ≡ c.args.byte → ⊥) c.in-Some.ensures.ran searched (λ x q k. search (rules, tests)) (λ x q k. search (rules, tests)) in
    λ k low high e. not_before c.args.text.now c.min-start.result c.in-Some.place k c.args.byte first.2 (omega arith) high e

pub returns-in-None-clause-before : goal.returns-in-None-clause-before
returns-in-None-clause-before c =
    let searched = YieldsList-from_slice (drop c.min-start.result c.args.text.now) (c.iter.ensures.rest ∙ take_rest c.args.text.now c.min-start.result) in
    let none = IsFirst-from_position _ _ _ (λ (x : ℕ). x ≡ c.args.byte) (λ (x : ℕ). x ≡ c.args.byte → ⊥) c.in-None.ensures.ran searched (λ x q k. search (rules, tests)) (λ x q k. search (rules, tests)) in
    λ k low high e. not_before c.args.text.now c.min-start.result _ k c.args.byte none (omega arith) (omega (arith, length-drop c.min-start.result c.args.text.now)) e
