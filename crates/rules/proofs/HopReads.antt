-- The hop step never reads a slot from used upward, and writes none. Assumes nothing.
use Prim.Native.Nat.{ℕ}
use mathlib.Core.Path.{refl}
use Rattle.rules.specs.Words.{vacant_at, occupied_at}
use Rattle.rules.specs.Runs.{past_front}
use Rattle.rules.specs.Hop.{hop_number, hop_answer, hop_from, hop_rule}
use Rattle.rules.specs.NeverRead.{NeverReads}
use Rattle.rules.specs.declared.Header.{Header}
use Rattle.rules.proofs.Agree.{same_link}
use Rattle.rules.proofs.Kept.{unless_kept}
use Rattle.rules.proofs.NeverRead.{reach_same, plain_alike, unless_alike, same_entry}

pub hop_never_reads : (hd : Header) (c : ℕ) → NeverReads hd.used (λ l r. hop_rule l r hd c)
unfolding hop_rule hop_from hop_number hop_answer past_front vacant_at occupied_at
hop_never_reads hd c =
    record {
      alike = λ l l' r r' g.
          unless_alike hd.used l l' r r' hd g _ _ (same_entry hd l l' r r' g) _ _
          (λ _. plain_alike hd (simp (same_link hd.used l l' g.links)) (rw (reach_same _ hd.used) g));
      kept = λ l r. unless_kept hd.used l r hd _ _ (λ _. record { links = refl; rows = refl });
    }
