-- The soundness check never reads a slot from used upward, and writes none. Assumes nothing.
use Prim.Native.Nat.{ℕ, zero, suc, ◌*◌}
use mathlib.Core.List.{List}
use mathlib.Core.Path.{◌≡◌, refl}
use Rattle.rules.specs.Words.{link_words}
use Rattle.rules.specs.Values.{done}
use Rattle.rules.specs.Refusals.{entry_number}
use Rattle.rules.specs.Check.{ends_test, circle_test, sound_test, sound_number, check_rule}
use Rattle.rules.specs.NeverRead.{AgreeTo, NeverReads, AnswersAlike}
use Rattle.rules.specs.declared.Header.{Header}
use Rattle.rules.proofs.Agree.{same_link, same_versions}
use Rattle.rules.proofs.NeverRead.{same_entry}
use Rattle.rules.proofs.Steady.{none_steady, steps_never_read}

-- the passes over the slots, and the one along the chain
module _ (used : ℕ) (l l' : List ℕ) (g : AgreeTo (used * link_words) l l') where
  same_ends : ends_test l used ≡ ends_test l' used
  unfolding ends_test
  same_ends = simp (same_versions used l l' g, same_link used l l' g)

  same_circle : (n x : ℕ) → circle_test l used n x ≡ circle_test l' used n x
  unfolding circle_test
  same_circle zero x = refl
  same_circle (suc n) x = simp (same_versions used l l' g, same_link used l l' g, same_circle n)

same_sound : (hd : Header) (l l' : List ℕ) → AgreeTo (hd.used * link_words) l l' → (n : ℕ) → sound_number n l hd ≡ sound_number n l' hd
unfolding sound_number sound_test
same_sound hd l l' g n =
    simp (same_versions hd.used l l' g, same_link hd.used l l' g, same_ends hd.used l l' g, same_circle hd.used l l' g)

-- after any number so far that reads no more
pub sound_number_never_reads : (hd : Header) (number : List ℕ → List ℕ → ℕ) → AnswersAlike hd.used number →
    AnswersAlike hd.used (λ l r. sound_number (number l r) l hd)
sound_number_never_reads hd number n =
    record { alike = λ l l' r r' g. simp (n.alike l l' r r' g, same_sound hd l l' g.links) }

-- after the tests at entry: what clear asks too
pub entry_sound_never_reads : (hd : Header) → AnswersAlike hd.used (λ l r. sound_number (entry_number l r hd) l hd)
entry_sound_never_reads hd = sound_number_never_reads hd _ (record { alike = λ l l' r r' g. same_entry hd l l' r r' g })

pub check_never_reads : (hd : Header) → NeverReads hd.used (λ l r. check_rule l r hd)
unfolding check_rule
check_never_reads hd = steps_never_read hd done _ (entry_sound_never_reads hd) (λ o. o) none_steady
