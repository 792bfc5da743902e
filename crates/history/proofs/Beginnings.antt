-- Where a history begins: what start and rebuild leave, where they pass their tests; that it is a machine, one lemma a beginning; and which
-- keys are live then. Assumes nothing.
use mathlib.Core.Path.{◌≡◌, refl, ap, ◌∙◌, subst}
use mathlib.Core.List.{List, []}
use mathlib.Core.Bool.{Bool, false}
use Prim.Native.Nat.{ℕ, ◌%◌}
use native.Mathlib.Omega.{arith}
use lib.ListN.{length}
use lib.Dec.{eqb}
use borrow.Author.Tests.{eq-eqb, eqb-true, eqb-false}
use Rattle.rules.specs.Choice.{pick}
use Rattle.rules.specs.Words.{lent_of, version_at, row_at}
use Rattle.rules.specs.Values.{ends, Values, Outcome, refusal, unless}
use Rattle.rules.specs.Refusals.{lent_number, live_by}
use Rattle.rules.specs.Start.{start_rule}
use Rattle.rules.specs.Rebuild.{rebuild_number, rebuild_rule}
use Rattle.rules.specs.declared.Header.{Header}
use Rattle.rules.specs.declared.Key.{Key}
use Rattle.rules.proofs.Choice.{by_test}
use Rattle.rules.proofs.SlotTests.{vacant_no}
use Rattle.runs.specs.Machine.{Machine}
use Rattle.runs.specs.Steps.{look_on}
use Rattle.runs.specs.WholeTable.{start_on, rebuild_on}
use Rattle.runs.proofs.Shown.{lent_shape}
use Rattle.runs.proofs.Accessed.{look_is}
use Rattle.runs.proofs.Begun.{start_does, rebuild_does}
use Rattle.history.specs.Calls.{Beginning, start, rebuild, begin, begin_rule}
use Rattle.history.specs.Histories.{Table, left, looked, Refused, Begun, GoesOn}
use Rattle.history.proofs.Live.{Live, live_is, live_yes, look_live, look_dead}
use Rattle.history.proofs.Reduced.{Stands}

-- a call that passes its tests and is done is not refused, and one that was not refused has passed them
passes_unrefused : (l r : List ℕ) (hd : Header) (n : ℕ) (o : Outcome) → n ≡ 0 → o.answer.kind ≡ ends → Refused (unless l r hd n o) → ⊥
unfolding unless
passes_unrefused l r hd n o z e h =
    let k : (unless l r hd n o).answer.kind ≡ ends = simp (eq-eqb n 0 z) e in
    eqb-false 0 1 refl (cc)

unrefused_passes : (l r : List ℕ) (hd : Header) (n : ℕ) (o : Outcome) → (Refused (unless l r hd n o) → ⊥) → n ≡ 0
unfolding unless
unrefused_passes l r hd n o h =
    by_test (λ (t : Bool). eqb n 0 ≡ t → (Refused (pick t o (refusal l r hd n)) → ⊥) → n ≡ 0) (eqb n 0)
    (λ _ e _. eqb-true n 0 e) (λ _ e k. absurd (k refl)) refl h

-- the table that a start, or a rebuild, leaves where its number is 0 is one that a history begins with
pub start_begins : (l r : List ℕ) (hd : Header) → lent_number (length l) (length r) ≡ 0 → Begun (left (start_rule l r hd))
unfolding start_rule
start_begins l r hd e =
    record { by = start; links = l; rows = r; header = hd; unrefused = passes_unrefused l r hd _ _ e refl; leaves = refl }

pub rebuild_begins : (l r : List ℕ) (hd : Header) (bytes : List ℕ) → rebuild_number l r bytes ≡ 0 → Begun (left (rebuild_rule l r hd bytes))
unfolding rebuild_rule
rebuild_begins l r hd bytes e =
    record { by = rebuild bytes; links = l; rows = r; header = hd; unrefused = passes_unrefused l r hd _ _ e refl; leaves = refl }

-- and it is a machine
begun_by : (b : Beginning) (l r : List ℕ) (hd : Header) → (Refused (begin_rule b l r hd) → ⊥) → (m : Machine) × Stands (left (begin_rule b l r hd)) m
unfolding start_rule rebuild_rule
begun_by start l r hd h = (_, (start_does l r hd (unrefused_passes l r hd (lent_number (length l) (length r)) _ h)).shows)
begun_by (rebuild bytes) l r hd h = (_, (rebuild_does l r bytes (unrefused_passes l r hd (rebuild_number l r bytes) _ h) hd).shows)

pub begun : (t : Table) → Begun t → (m : Machine) × Stands t m
begun t b =
    subst (λ (x : Table). (m : Machine) × Stands x m) b.leaves (begun_by b.by b.links b.rows b.header b.unrefused)

-- after a start no key is live
pub start_empty : (l r : List ℕ) (hd : Header) → lent_number (length l) (length r) ≡ 0 → (k : Key) → looked (left (start_rule l r hd)) k ≡ []
start_empty l r hd e k =
    look_is _ _ _ (start_on (lent_of l)).machine (start_does l r hd e).shows k
    ∙ look_dead (start_on (lent_of l)).machine k (λ a. omega (arith, a.odd, ap (λ (x : ℕ). x % 2) a.same))

-- after a rebuild of n slots those that an occupied slot has, each with its row
pub rebuild_keeps : (l r : List ℕ) (hd : Header) (bytes : List ℕ) → rebuild_number l r bytes ≡ 0 → (k : Key) →
    looked (left (rebuild_rule l r hd bytes)) k ≡
    pick (live_by (version_at l (length bytes)) (length bytes) k) (row_at r (length bytes) k.index) []
rebuild_keeps l r hd bytes e k =
    look_is _ _ _ m (rebuild_does l r bytes e hd).shows k
    ∙ by_test (λ (t : Bool). live_by (version_at l n) n k ≡ t → look_on m k ≡ pick t (row_at r n k.index) []) (live_by (version_at l n) n k)
    (λ _ q. look_live m k (live_is m k q) ∙ there (live_is m k q)) (λ _ q. look_dead m k (λ a. not_live q a)) refl
  where
    n : ℕ
    n = length bytes

    m : Machine
    m = (rebuild_on (version_at l n) (row_at r n) n (lent_of l)).machine

    there : Live m k → m.rows k.index ≡ row_at r n k.index
    there a = simp (vacant_no (version_at l n) n k.index (λ _. ap (λ (x : ℕ). x % 2) a.same ∙ a.odd))

    not_live : live_by (version_at l n) n k ≡ false → Live m k → ⊥
    not_live q a = eqb-false 0 1 refl (cc (q, live_yes m k a))

-- a start given the tables of a history is never refused: it always ends the history
pub start_ends : (t : Table) (m : Machine) → Stands t m → GoesOn t (begin start) → ⊥
start_ends t m s g =
    let d = (start_does t.links t.rows t.header (lent_shape t.links t.rows t.header s.shaped)).answer in
    let k = ap (λ (v : Values). v.kind) d in
    eqb-false 0 1 refl (cc)
