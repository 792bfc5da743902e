-- Calls that go on step by step from what the last step left: used stays, and where no step reads or writes a slot from used
-- upward, no number of them does. Assumes nothing.
use Prim.Native.Nat.{ℕ}
use mathlib.Core.List.{List}
use mathlib.Core.Path.{◌≡◌, refl, sym, subst, ◌∙◌}
use lib.Dec.{eqb}
use Rattle.rules.specs.Values.{Values, Outcome, plain, refusal, unless}
use Rattle.rules.specs.NeverRead.{AgreeBelow, reached, Alike, Kept, NeverReads, AnswersAlike}
use Rattle.rules.specs.declared.Header.{Header}
use Rattle.rules.proofs.Choice.{by_pick}
use Rattle.rules.proofs.Kept.{Keeps, unless_kept}
use Rattle.rules.proofs.NeverRead.{reach_same, unless_alike}

-- a call whose step leaves used as it is does so when it refuses too
pub unless_used : (l r : List ℕ) (hd : Header) (n : ℕ) (o : Outcome) → o.header.used ≡ hd.used →
    (unless l r hd n o).header.used ≡ hd.used
unfolding unless
unless_used l r hd n o e = by_pick (λ (w : Outcome). w.header.used ≡ hd.used) (eqb n 0) o (refusal l r hd n) (λ _. e) (λ _. refl)

-- an outcome that has used m and the old tables from slot m upward
pub record Stays (m : ℕ) (l r : List ℕ) (o : Outcome) : Type 0 where
  pub used : o.header.used ≡ m
  pub kept : Kept m l r o

-- an outcome with other tables
abbrev pub over : Outcome → List ℕ → List ℕ → Outcome
over o l r = record { answer = o.answer; row = o.row; header = o.header; links = l; rows = r }

-- a step from one outcome to the next
pub record Steady (step : Outcome → Outcome) : Type 0 where
  pub alike : (o : Outcome) (l r : List ℕ) → AgreeBelow o.header.used o.links l o.rows r →
      Alike o.header.used (step o) (step (over o l r))
  pub stays : (o : Outcome) → Stays o.header.used o.links o.rows (step o)

-- where used is m, the tables are known up to m
known : (m : ℕ) (o : Outcome) → o.header.used ≡ m → reached m o ≡ m
known m o e = rw e (reach_same o.answer.kind m)

pub known_below : (m : ℕ) (o o' : Outcome) → o.header.used ≡ m → Alike m o o' →
    AgreeBelow m o.links o'.links o.rows o'.rows
known_below m o o' e a = rw (known m o e) at a.tables

pub stays_below : (m : ℕ) (l r : List ℕ) (o : Outcome) → o.header.used ≡ m → Keeps m l r o → Stays m l r o
stays_below m l r o e k = record { used = e; kept = subst (λ (n : ℕ). Kept n l r o) (known m o e) k }

keeps_below : (m : ℕ) (l r : List ℕ) (o : Outcome) → Stays m l r o → Keeps m l r o
keeps_below m l r o s = subst (λ (n : ℕ). Kept n l r o) (sym (known m o s.used)) s.kept

-- no step
pub none_steady : Steady (λ o. o)
none_steady =
    record {
      alike = λ o l r g. record { answer = refl; row = refl; header = refl; tables = rw (reach_same _ o.header.used) g };
      stays = λ o. record { used = refl; kept = record { links = refl; rows = refl } };
    }

-- one step after another: outcomes that are alike differ in their tables alone
over_alike : (m : ℕ) (o o' : Outcome) → Alike m o o' → over o o'.links o'.rows ≡ o'
over_alike m o o' a = rw (a.answer, a.row, a.header)

step_alike : (step : Outcome → Outcome) → Steady step → (m : ℕ) (o o' : Outcome) → o.header.used ≡ m → Alike m o o' →
    Alike m (step o) (step o')
step_alike step s m o o' e a =
    subst (λ (w : Outcome). Alike m (step o) (step w)) (over_alike m o o' a)
    (subst (λ (n : ℕ). Alike n (step o) (step (over o o'.links o'.rows))) e
    (s.alike o o'.links o'.rows (rw e (known_below m o o' e a))))

step_stays : (step : Outcome → Outcome) → Steady step → (m : ℕ) (l r : List ℕ) (o : Outcome) → Stays m l r o → Stays m l r (step o)
step_stays step s m l r o j =
    let k = subst (λ (n : ℕ). Stays n o.links o.rows (step o)) j.used (s.stays o) in
    record {
      used = k.used;
      kept = record { links = k.kept.links ∙ j.kept.links; rows = k.kept.rows ∙ j.kept.rows };
    }

pub then_steady : {f g : Outcome → Outcome} → Steady f → Steady g → Steady (λ o. g (f o))
then_steady {f} {g} s t =
    record {
      alike = λ o l r h. step_alike g t o.header.used (f o) (f (over o l r)) (s.stays o).used (s.alike o l r h);
      stays = λ o. step_stays g t o.header.used o.links o.rows (f o) (s.stays o);
    }

-- a call's rule that goes on from an outcome's tables and header, and leaves used as it is
pub rule_steady : (rule : List ℕ → List ℕ → Header → Outcome) → ((hd : Header) → NeverReads hd.used (λ l r. rule l r hd)) →
    ((l r : List ℕ) (hd : Header) → (rule l r hd).header.used ≡ hd.used) → Steady (λ o. rule o.links o.rows o.header)
rule_steady rule reads same =
    record {
      alike = λ o l r g. (reads o.header).alike o.links l o.rows r g;
      stays = λ o. stays_below _ _ _ _ (same o.links o.rows o.header) ((reads o.header).kept o.links o.rows);
    }

-- a call that reckons a number, and where it is 0 takes the steps
pub steps_never_read : (hd : Header) (v : Values) (number : List ℕ → List ℕ → ℕ) → AnswersAlike hd.used number →
    (step : Outcome → Outcome) → Steady step →
    NeverReads hd.used (λ l r. unless l r hd (number l r) (step (plain v hd l r)))
steps_never_read hd v number n step s =
    record {
      alike = λ l l' r r' g.
          unless_alike hd.used l l' r r' hd g _ _ (n.alike l l' r r' g) _ _ (λ _. s.alike (plain v hd l r) l' r' g);
      kept = λ l r. unless_kept hd.used l r hd _ _ (λ _. keeps_below hd.used l r _ (s.stays (plain v hd l r)));
    }
