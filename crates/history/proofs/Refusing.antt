-- On a sound table, call by call: 2 is never given, and 5 to an insert into a full table alone. Assumes nothing.
use Prim.Native.Nat.{ℕ}
use mathlib.Core.List.{List, [], ◌∷◌}
use mathlib.Core.Bool.{false}
use mathlib.Core.Path.{◌≡◌, refl, ap, ◌∙◌}
use native.Mathlib.Omega.{arith}
use lib.Dec.{eqb}
use Rattle.rules.specs.Values.{Values, refused, of_number}
use Rattle.rules.specs.Refusals.{damaged, even_version, not_live, full}
use Rattle.rules.specs.Given.{one_of, Only}
use Rattle.rules.specs.Access.{key_number}
use Rattle.rules.specs.declared.Key.{Key}
use Rattle.rules.proofs.Choice.{by_pick}
use Rattle.rules.proofs.Given.{never}
use Rattle.runs.specs.Machine.{Machine}
use Rattle.runs.specs.Tables.{Shows, GivesOnly}
use Rattle.runs.proofs.Full.{full_only_if}
use Rattle.runs.proofs.Calls.{insert_only, remove_only, replace_only, hop_only, drain_only, clear_only, retain_only, check_only, room_only, key_number_only}
use Rattle.history.specs.Calls.{start, rebuild, number, look, hop, check, room, Call, begin, ask, insert, remove, write, replace, drain, clear, retain, rule}
use Rattle.history.specs.Histories.{Table, answer}
use Rattle.history.specs.Refusals.{Numbers}
use Rattle.history.proofs.AnyWords.{number_refuses, number_given}

-- the number of an answer that is a number alone
number_only : (ks : List ℕ) (n : ℕ) → Only ks n → Only ks (of_number n).number
number_only ks n h = by_pick (λ (v : Values). Only ks v.number) (eqb n 0) _ _ (λ _. record { listed = refl }) (λ _. h)

module _ (t : Table) (m : Machine) (s : Shows t.links t.rows t.header m) where
  -- a call that can give neither 2 nor 5: whatever the words; on a sound table; and by its key's number
  neither : (c : Call) (ks : List ℕ) → Only ks (answer t c).number → one_of (0 ∷ ks) damaged ≡ false → one_of (0 ∷ ks) full ≡ false → Numbers t c
  neither c ks n d f = record { never_2 = never ks _ damaged n d; full_only = λ e. absurd (never ks _ full n f e) }

  sound_neither : (c : Call) (ks : List ℕ) → GivesOnly ks (rule c) → one_of (0 ∷ ks) damaged ≡ false → one_of (0 ∷ ks) full ≡ false → Numbers t c
  sound_neither c ks o = neither c ks (o t.links t.rows t.header s.shaped s.sound)

  by_key : (k : Key) → Only (even_version ∷ not_live ∷ []) (of_number (key_number t.links t.rows t.header k)).number
  by_key k = number_only _ _ (key_number_only t.links t.rows t.header s.shaped s.sound k)

  insert_numbers : (side : List ℕ) → Numbers t (insert side)
  insert_numbers side =
      record {
        never_2 = never _ _ damaged (insert_only side _ _ _ s.shaped s.sound) refl;
        full_only = λ e.
            let a = number_refuses t (insert side) (λ z. omega (arith, z, e)) ∙ ap refused e in
            ((side, refl), full_only_if t.links t.rows t.header m s side a);
      }

  -- any call
  pub numbers : (c : Call) → Numbers t c
  numbers (begin start) = neither (begin start) _ (number_given t (begin start)) refl refl
  numbers (begin (rebuild bytes)) = neither (begin (rebuild bytes)) _ (number_given t (begin (rebuild bytes))) refl refl
  numbers (ask (number k)) = neither (ask (number k)) _ (by_key k) refl refl
  numbers (ask (look k)) = neither (ask (look k)) _ (by_key k) refl refl
  numbers (ask (hop c)) = sound_neither (ask (hop c)) _ (hop_only c) refl refl
  numbers (ask check) = sound_neither (ask check) _ check_only refl refl
  numbers (ask room) = sound_neither (ask room) _ room_only refl refl
  numbers (insert side) = insert_numbers side
  numbers (remove k) = sound_neither (remove k) _ (remove_only k) refl refl
  numbers (write k row) = neither (write k row) _ (by_key k) refl refl
  numbers (replace k side) = sound_neither (replace k side) _ (replace_only k side) refl refl
  numbers drain = sound_neither drain _ drain_only refl refl
  numbers clear = sound_neither clear _ clear_only refl refl
  numbers (retain bytes) = sound_neither (retain bytes) _ (retain_only bytes) refl refl
