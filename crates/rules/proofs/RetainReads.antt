-- Retain never reads a slot from used upward, nor writes one: it is the removal of slots in use, one after another.
-- Assumes nothing.
use Prim.Native.Nat.{ℕ, zero, suc}
use mathlib.Core.List.{List}
use mathlib.Core.Bool.{Bool}
use mathlib.Core.Path.{refl}
use lib.ListN.{length}
use Rattle.rules.specs.Choice.{both}
use Rattle.rules.specs.Words.{occupied_at, key_at}
use Rattle.rules.specs.Values.{Outcome, counted}
use Rattle.rules.specs.Retain.{remove_if, remove_chosen, struck_by, retain_number, retain_rule}
use Rattle.rules.specs.NeverRead.{AgreeBelow, Alike, NeverReads}
use Rattle.rules.specs.declared.Header.{Header}
use Rattle.rules.proofs.Choice.{by_pick, by_picks, both_true}
use Rattle.rules.proofs.Links.{occupied}
use Rattle.rules.proofs.Agree.{same_link}
use Rattle.rules.proofs.NeverRead.{same_side_entry}
use Rattle.rules.proofs.RemoveReads.{removal_used, removal_alike, removal_kept}
use Rattle.rules.proofs.Steady.{Stays, Steady, over, none_steady, then_steady, known_below, stays_below, steps_never_read}
use Rattle.rules.proofs.CheckReads.{sound_number_never_reads}

-- slot i goes if it is live and chosen, under the key that it has
module _ (chosen : ℕ → Bool) (i : ℕ) (o : Outcome) where
  if_alike : (l r : List ℕ) → AgreeBelow o.header.used o.links l o.rows r →
      Alike o.header.used (remove_if chosen i o) (remove_if chosen i (over o l r))
  unfolding remove_if occupied_at
  if_alike l r g =
      let used = o.header.used in
      let key = key_at l used i in
      let a = removal_alike o.header key o.links l o.rows r g in
      let e = removal_used o.links o.rows o.header key in
      simp (same_link used o.links l g.links)
      (by_picks (Alike used) (both (occupied_at l used i) (chosen i)) _ _ _ _
      (λ _. record { answer = refl; row = refl; header = a.header; tables = rw e (known_below used _ _ e a) })
      (λ _. none_steady.alike o l r g))

  if_stays : Stays o.header.used o.links o.rows (remove_if chosen i o)
  unfolding remove_if
  if_stays =
      let used = o.header.used in
      let key = key_at o.links used i in
      by_pick (Stays used o.links o.rows) (both (occupied_at o.links used i) (chosen i)) _ _
      (λ t.
      let slot = occupied o.links used i (both_true _ _ t).0 in
      let e = removal_used o.links o.rows o.header key in
      let s = stays_below used _ _ _ e (removal_kept o.header key o.links o.rows slot.below) in
      record { used = e; kept = record { links = s.kept.links; rows = s.kept.rows } })
      (λ _. none_steady.stays o)

chosen_steady : (chosen : ℕ → Bool) (n : ℕ) → Steady (remove_chosen chosen n)
unfolding remove_chosen
chosen_steady chosen zero = none_steady
chosen_steady chosen (suc n) =
    then_steady (chosen_steady chosen n) record { alike = if_alike chosen n; stays = if_stays chosen n }

pub retain_never_reads : (hd : Header) (bytes : List ℕ) → NeverReads hd.used (λ l r. retain_rule l r hd bytes)
unfolding retain_rule retain_number
retain_never_reads hd bytes =
    steps_never_read hd (counted 0) _
    (sound_number_never_reads hd _ (record { alike = λ l l' r r' g. same_side_entry hd l l' r r' g (length bytes) hd.used })) _
    (chosen_steady (struck_by bytes) hd.used)
