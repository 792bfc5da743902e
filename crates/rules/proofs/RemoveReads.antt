-- Remove and the drain step never read a slot from used upward, nor write one. Both come down to the removal of a slot in use.
-- Assumes nothing.
use Prim.Native.Nat.{ℕ, ◌+◌, ◌*◌, ◌<◌}
use mathlib.Core.List.{List}
use mathlib.Core.Path.{◌≡◌, refl}
use native.Mathlib.Omega.{arith}
use lib.Dec.{eqb}
use Rattle.rules.specs.Words.{link_words, other_end_at, zero_row, vacant_at, occupied_at}
use Rattle.rules.specs.Values.{Outcome}
use Rattle.rules.specs.Access.{key_number}
use Rattle.rules.specs.Remove.{apart_number, left_number, right_number, remove_number, set_apart, join_right, join_left, join_both, freed, remove_step, remove_by, remove_slot, slot_number, remove_at, remove_rule}
use Rattle.rules.specs.Drain.{drain_rule}
use Rattle.rules.specs.NeverRead.{AgreeTo, AgreeBelow, Alike, NeverReads}
use Rattle.rules.specs.declared.Header.{Header}
use Rattle.rules.specs.declared.Key.{Key}
use Rattle.rules.specs.declared.steps.Beside.{Beside}
use Rattle.rules.proofs.Choice.{by_pick, by_picks}
use Rattle.rules.proofs.Shape.{held}
use Rattle.rules.proofs.Links.{vacant_below_lem, RemovePassed, remove_passed, slot_passed}
use Rattle.rules.proofs.Agree.{same_link, link_agrees, same_row, row_agrees}
use Rattle.rules.proofs.Kept.{LinksKept, Keeps, link_kept, row_kept, unless_kept}
use Rattle.rules.proofs.NeverRead.{plain_alike, unless_alike, same_entry, same_key_lem}
use Rattle.rules.proofs.Steady.{unless_used}

-- the links beside the slot: two choices, then at most six writes
freed_agrees : (used : ℕ) (l l' : List ℕ) → AgreeTo (used * link_words) l l' → (i : ℕ) (x : Beside) →
    AgreeTo (used * link_words) (freed l used i x) (freed l' used i x)
unfolding freed join_both join_left join_right set_apart
freed_agrees used l l' g i x = simp (same_link used l l' g) (search (by_picks (AgreeTo (used * link_words)), link_agrees) depth 8)

freed_kept : (l : List ℕ) (hd : Header) (i : ℕ) (x : Beside) → i < hd.used → RemovePassed l hd x →
    LinksKept hd.used l (freed l hd.used i x)
unfolding freed join_both join_left join_right set_apart
freed_kept l hd i x h p =
    let head : 0 < hd.used = omega arith in
    search (by_pick (LinksKept hd.used l), link_kept, vacant_below_lem l, p.front, p.next, p.prev, p.back, p.last)

-- the removal of a slot under its key: it reads below used, and writes there if the slot is in use
pub removal_alike : (hd : Header) (k : Key) (l l' r r' : List ℕ) → AgreeBelow hd.used l l' r r' →
    Alike hd.used (remove_slot l r hd k) (remove_slot l' r' hd k)
unfolding remove_slot remove_by remove_step apart_number left_number right_number remove_number vacant_at
removal_alike hd k l l' r r' g =
    simp (same_link hd.used l l' g.links)
    (unless_alike hd.used l l' r r' hd g _ _ refl _ _
    (λ _.
    record {
      answer = refl;
      row = same_row hd.used r r' g.rows k.index;
      header = refl;
      tables =
          record {
            links = link_agrees _ _ _ (freed_agrees hd.used l l' g.links k.index _) _ _ _;
            rows = row_agrees _ r r' g.rows k.index zero_row;
          };
    }))

pub removal_kept : (hd : Header) (k : Key) (l r : List ℕ) → k.index < hd.used →
    Keeps hd.used l r (remove_slot l r hd k)
unfolding remove_slot remove_by remove_step
removal_kept hd k l r h =
    unless_kept hd.used l r hd _ _
    (λ e.
    record {
      links = simp link_kept (freed_kept l hd k.index _ h (remove_passed l hd _ e));
      rows = row_kept hd.used r k.index zero_row h;
    })

-- and leaves used as it is; so does the drain step
pub removal_used : (l r : List ℕ) (hd : Header) (k : Key) → (remove_slot l r hd k).header.used ≡ hd.used
unfolding remove_slot remove_by remove_step
removal_used l r hd k = unless_used l r hd _ _ refl

pub drain_used : (l r : List ℕ) (hd : Header) → (drain_rule l r hd).header.used ≡ hd.used
unfolding drain_rule remove_at
drain_used l r hd =
    unless_used l r hd _ _
    (by_pick (λ (o : Outcome). o.header.used ≡ hd.used) (eqb hd.live 0) _ (remove_at l r hd (other_end_at l hd.used 0 + 1))
    (λ _. refl)
    (λ _. unless_used l r hd _ _ (removal_used l r hd _)))

pub remove_never_reads : (hd : Header) (k : Key) → NeverReads hd.used (λ l r. remove_rule l r hd k)
unfolding remove_rule key_number
remove_never_reads hd k =
    record {
      alike = λ l l' r r' g.
          unless_alike hd.used l l' r r' hd g _ _ (same_key_lem hd l l' r r' g k) _ _ (λ _. removal_alike hd k l l' r r' g);
      kept = λ l r. unless_kept hd.used l r hd _ _ (λ e. removal_kept hd k l r (held _ l hd k e).1);
    }

pub drain_never_reads : (hd : Header) → NeverReads hd.used (λ l r. drain_rule l r hd)
unfolding drain_rule remove_at slot_number occupied_at
drain_never_reads hd =
    record {
      alike = λ l l' r r' g.
          unless_alike hd.used l l' r r' hd g _ _ (same_entry hd l l' r r' g) _ _
          (λ _.
          by_picks (Alike hd.used) (eqb hd.live 0) _ _ _ _
          (λ _. plain_alike hd refl g)
          (λ _.
          simp (same_link hd.used l l' g.links)
          (unless_alike hd.used l l' r r' hd g _ _ refl _ _ (λ _. removal_alike hd _ l l' r r' g))));
      kept = λ l r.
          unless_kept hd.used l r hd _ _
          (λ _.
          by_pick (Keeps hd.used l r) (eqb hd.live 0) _ _
          (λ _. record { links = refl; rows = refl })
          (λ _. unless_kept hd.used l r hd _ _ (λ e. removal_kept hd _ l r (slot_passed l hd _ e).below)));
    }
