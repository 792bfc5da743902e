-- Where slot 0 is even relinking leaves a sound table, and its chain is the runs' fronts in rising order. Assumes nothing.
use mathlib.Core.Path.{◌≡◌, sym, ap}
use mathlib.Core.List.{List}
use Prim.Native.Nat.{ℕ, ◌*◌, ◌≤◌, ◌%◌}
use lib.ListN.{length}
use Rattle.rules.specs.Words.{link_words, version_at}
use Rattle.rules.specs.Runs.{odd_count}
use Rattle.rules.specs.Rebuild.{relinked}
use Rattle.rules.specs.Sound.{Sound}
use Rattle.runs.specs.Rising.{rising}
use Rattle.runs.proofs.Sound.{sound, chain_is}
use Rattle.runs.proofs.Relinked.{relinked_versions, relinked_linked}

module _ (l : List ℕ) (n : ℕ) (some : 1 ≤ n) (fits : n * link_words ≤ length l) (even : version_at l n 0 % 2 ≡ 0) where
  pub relinked_sound : Sound (relinked l n).links (relinked l n).header
  unfolding relinked
  relinked_sound =
      sound _ _ (rising (version_at l n) n) (relinked_linked l n some fits even)
      (ap (λ (v : ℕ → ℕ). odd_count v n) (sym (relinked_versions l n n)))

  -- the chain, by any proof, is the fronts in rising order
  pub relinked_chain : (s : Sound (relinked l n).links (relinked l n).header) → s.circle.after ≡ rising (version_at l n) n
  unfolding relinked
  relinked_chain s = chain_is _ _ s (rising (version_at l n) n) (relinked_linked l n some fits even)
