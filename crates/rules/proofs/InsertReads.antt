-- Insert never reads a slot from used upward, and writes none but the one that it grows into. Assumes nothing.
use Prim.Native.Nat.{ℕ, ◌+◌}
use mathlib.Core.List.{List}
use mathlib.Core.Path.{◌≡◌, refl}
use native.Mathlib.Omega.{arith}
use lib.ListN.{length}
use lib.Dec.{eqb}
use borrow.Author.Tests.{eqb-true, eqb-false}
use Rattle.rules.specs.Words.{row_words, vacant_at}
use Rattle.rules.specs.Headers.{one_more, grown}
use Rattle.rules.specs.Insert.{run_number, take_number, insert_number, take_new, take_slot, take_last, take_back, shortened, insert_step, insert_by, insert_rule}
use Rattle.rules.specs.NeverRead.{AgreeTo, AgreeBelow, Alike, NeverReads}
use Rattle.rules.specs.declared.Header.{Header}
use Rattle.rules.specs.declared.steps.InsertLinks.{InsertLinks}
use Rattle.rules.proofs.Choice.{by_pick, by_picks}
use Rattle.rules.proofs.Links.{vacant_below_lem, InsertPassed, insert_passed}
use Rattle.rules.proofs.Agree.{same_link, link_agrees, slot_filled, row_agrees, row_filled}
use Rattle.rules.proofs.Kept.{LinksKept, Keeps, link_kept, slot_kept, row_kept, unless_kept}
use Rattle.rules.proofs.NeverRead.{plain_alike, unless_alike, same_side_entry}

-- the number for given links
same_insert : (hd : Header) (side : List ℕ) (x : InsertLinks) (l l' r r' : List ℕ) → AgreeBelow hd.used l l' r r' →
    insert_number l r hd side x ≡ insert_number l' r' hd side x
unfolding insert_number take_number run_number vacant_at
same_insert hd side x l l' r r' g =
    simp (same_side_entry hd l l' r r' g (length side) row_words, same_link hd.used l l' g.links, g.links.lengths)

-- the run without the slot that is taken
shortened_agrees : (n : ℕ) (x : InsertLinks) (l l' : List ℕ) → AgreeTo n l l' → AgreeTo n (shortened l x) (shortened l' x)
unfolding shortened take_last take_back
shortened_agrees n x l l' g = search (by_picks (AgreeTo n), link_agrees)

shortened_kept : (l r : List ℕ) (hd : Header) (side : List ℕ) (x : InsertLinks) → InsertPassed l r hd side x → (x.b ≡ 0 → ⊥) →
    LinksKept hd.used l (shortened l x)
unfolding shortened take_last take_back
shortened_kept l r hd side x p b =
    search (by_pick (LinksKept hd.used l), link_kept, vacant_below_lem l, eqb-true, eqb-false, p.take.next, p.take.before)

-- the step past the tests, from the links that were followed
step_alike : (hd : Header) (side : List ℕ) (x : InsertLinks) (l l' r r' : List ℕ) → AgreeBelow hd.used l l' r r' →
    InsertPassed l r hd side x → Alike hd.used (insert_step l r hd side x) (insert_step l' r' hd side x)
unfolding insert_step take_new take_slot
step_alike hd side x l l' r r' g p =
    by_picks (Alike hd.used) (eqb x.b 0) _ _ _ _
    (λ b.
    let free = p.take.grows (eqb-true _ _ b) in
    plain_alike (grown hd) refl
    record {
      links = slot_filled hd.used l l' g.links 1;
      rows = row_filled hd.used r r' side g.rows p.side_row (omega (arith, p.shaped.within, p.shaped.lent.rows_lent));
    })
    (λ _.
    simp (same_link hd.used l l' g.links)
    (plain_alike (one_more hd) refl
    record {
      links = link_agrees _ _ _ (shortened_agrees _ x l l' g.links) _ _ _;
      rows = row_agrees _ r r' g.rows x.b side;
    }))

step_kept : (hd : Header) (side : List ℕ) (x : InsertLinks) (l r : List ℕ) → InsertPassed l r hd side x →
    Keeps hd.used l r (insert_step l r hd side x)
unfolding insert_step take_new take_slot
step_kept hd side x l r p =
    by_pick (Keeps hd.used l r) (eqb x.b 0) _ _
    (λ _. record { links = slot_kept l hd.used 1; rows = row_kept (hd.used + 1) r hd.used side (omega arith) })
    (λ b.
    let back = p.run.back.below in
    record {
      links = simp link_kept (shortened_kept l r hd side x p (eqb-false _ _ b));
      rows = row_kept hd.used r x.b side back;
    })

pub insert_never_reads : (hd : Header) (side : List ℕ) → NeverReads hd.used (λ l r. insert_rule l r hd side)
unfolding insert_rule insert_by
insert_never_reads hd side =
    record {
      alike = λ l l' r r' g.
          simp (same_link hd.used l l' g.links)
          (unless_alike hd.used l l' r r' hd g _ _ (same_insert hd side _ l l' r r' g) _ _
          (λ e. step_alike hd side _ l l' r r' g (insert_passed l r hd side _ e)));
      kept = λ l r. unless_kept hd.used l r hd _ _ (λ e. step_kept hd side _ l r (insert_passed l r hd side _ e));
    }
