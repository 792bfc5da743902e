-- Slots from used upward are never read: what the law of specs/NeverRead takes for any call, and the law itself for each call
-- that follows no link. Assumes nothing.
use Prim.Native.Nat.{ℕ}
use mathlib.Core.List.{List}
use mathlib.Core.Path.{◌≡◌, refl, ap, ◌∙◌}
use native.Mathlib.Omega.{arith}
use lib.ListN.{length}
use lib.Dec.{eqb}
use borrow.Author.Tests.{eqb-true}
use Rattle.rules.specs.Words.{row_words, zero_row}
use Rattle.rules.specs.Headers.{fresh}
use Rattle.rules.specs.Values.{Kind, gives, ends, refuses, Values, Outcome, plain, unless}
use Rattle.rules.specs.Refusals.{shape_number, side_number, zero_number, live_key, live_number, entry_number, side_entry_number}
use Rattle.rules.specs.Start.{start_rule, room_rule}
use Rattle.rules.specs.Access.{key_number, look_rule, look_start, replace_number, replace_rule}
use Rattle.rules.specs.NeverRead.{AgreeBelow, reach, Alike, NeverReads, AnswersAlike}
use Rattle.rules.specs.declared.Header.{Header}
use Rattle.rules.specs.declared.Key.{Key}
use Rattle.rules.proofs.Choice.{by_picks}
use Rattle.rules.proofs.Agree.{same_link, same_row, row_agrees, slot_filled, row_filled}
use Rattle.rules.proofs.Kept.{slot_kept, row_kept, unless_kept}
use Rattle.rules.proofs.Shape.{lent, held}

-- where used stays, the tables are known as far after a refusal as after any answer
pub reach_same : (k : Kind) (m : ℕ) → reach k m m ≡ m
reach_same gives m = refl
reach_same ends m = refl
reach_same refuses m = refl

-- no row by value: one answer, one header, and tables that agree
pub plain_alike : {m : ℕ} {v v' : Values} {l l' r r' : List ℕ} (hd : Header) → v ≡ v' →
    AgreeBelow (reach v.kind m hd.used) l l' r r' → Alike m (plain v hd l r) (plain v' hd l' r')
plain_alike hd e g = record { answer = e; row = refl; header = refl; tables = g }

-- one number, and one step where it is 0: the rule reads no more than they do
pub unless_alike : (m : ℕ) (l l' r r' : List ℕ) (hd : Header) → AgreeBelow m l l' r r' → (n n' : ℕ) → n ≡ n' →
    (o o' : Outcome) → (n ≡ 0 → Alike m o o') → Alike m (unless l r hd n o) (unless l' r' hd n' o')
unfolding unless
unless_alike m l l' r r' hd g n n' e o o' h =
    rw (← e)
    (by_picks (Alike m) (eqb n 0) _ _ _ _
    (λ z. h (eqb-true n 0 z))
    (λ _. plain_alike hd refl g))

-- the tests at a call's entry read slot 0 and the key's slot alone
module _ (hd : Header) (l l' r r' : List ℕ) (g : AgreeBelow hd.used l l' r r') where
  same_shape : shape_number l r hd ≡ shape_number l' r' hd
  unfolding shape_number
  same_shape = simp (g.links.lengths, g.rows.lengths)

  same_zero : (k : ℕ) → zero_number k l hd ≡ zero_number k l' hd
  unfolding zero_number
  same_zero k = simp (same_link hd.used l l' g.links)

  pub same_entry : entry_number l r hd ≡ entry_number l' r' hd
  unfolding entry_number
  same_entry = same_zero (shape_number l r hd) ∙ ap (λ (k : ℕ). zero_number k l' hd) same_shape

  pub same_side_entry : (side n : ℕ) → side_entry_number l r hd side n ≡ side_entry_number l' r' hd side n
  unfolding side_entry_number
  same_side_entry side n =
      same_zero (side_number (shape_number l r hd) side n) ∙ ap (λ (k : ℕ). zero_number (side_number k side n) l' hd) same_shape

  pub same_live : (k : ℕ) (key : Key) → live_number k l hd key ≡ live_number k l' hd key
  unfolding live_number live_key
  same_live k key = simp (same_link hd.used l l' g.links)

  pub same_key_lem : (key : Key) → key_number l r hd key ≡ key_number l' r' hd key
  unfolding key_number
  same_key_lem key = same_live (entry_number l r hd) key ∙ ap (λ (k : ℕ). live_number k l' hd key) same_entry

pub start_never_reads : (hd : Header) → NeverReads 0 (λ l r. start_rule l r hd)
unfolding start_rule
start_never_reads hd =
    record {
      alike = λ l l' r r' g.
          unless_alike 0 l l' r r' hd g _ _ (simp (g.links.lengths, g.rows.lengths)) _ _
          (λ e.
          let s = lent _ _ e in
          plain_alike fresh refl
          record {
            links = slot_filled 0 l l' g.links 0;
            rows = row_filled 0 r r' zero_row g.rows refl (omega (arith, s.rows_lent, s.some));
          });
      kept = λ l r.
          unless_kept 0 l r hd _ _ (λ _. record { links = slot_kept l 0 0; rows = row_kept 1 r 0 zero_row (omega arith) });
    }

pub room_never_reads : (hd : Header) → NeverReads hd.used (λ l r. room_rule l r hd)
unfolding room_rule
room_never_reads hd =
    record {
      alike = λ l l' r r' g.
          unless_alike hd.used l l' r r' hd g _ _ (same_entry hd l l' r r' g) _ _
          (λ _. plain_alike hd (simp g.links.lengths) g);
      kept = λ l r. unless_kept hd.used l r hd _ _ (λ _. record { links = refl; rows = refl });
    }

pub key_number_never_reads : (hd : Header) (k : Key) → AnswersAlike hd.used (λ l r. key_number l r hd k)
key_number_never_reads hd k = record { alike = λ l l' r r' g. same_key_lem hd l l' r r' g k }

pub look_never_reads : (hd : Header) (k : Key) → AnswersAlike hd.used (λ l r. look_rule l r hd k)
unfolding look_rule
look_never_reads hd k =
    record {
      alike = λ l l' r r' g.
          simp (same_key_lem hd l l' r r' g k, same_row hd.used r r' g.rows k.index);
    }

pub look_start_never_reads : (hd : Header) (k : Key) → AnswersAlike hd.used (λ l r. look_start l r hd k)
unfolding look_start
look_start_never_reads hd k = record { alike = λ l l' r r' g. simp (same_key_lem hd l l' r r' g k) }

pub replace_never_reads : (hd : Header) (k : Key) (side : List ℕ) → NeverReads hd.used (λ l r. replace_rule l r hd k side)
unfolding replace_rule replace_number
replace_never_reads hd k side =
    record {
      alike = λ l l' r r' g.
          unless_alike hd.used l l' r r' hd g _ _
          (same_live hd l l' r r' g _ k ∙ ap (λ (n : ℕ). live_number n l' hd k) (same_side_entry hd l l' r r' g (length side) row_words)) _ _
          (λ _. plain_alike hd refl record { links = g.links; rows = row_agrees _ r r' g.rows k.index side });
      kept = λ l r.
          unless_kept hd.used l r hd _ _
          (λ e. record { links = refl; rows = row_kept hd.used r k.index side (held _ l hd k e).1 });
    }
