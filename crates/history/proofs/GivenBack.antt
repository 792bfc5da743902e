-- The row that a removal hands back by value is the one that look would have handed out before it. Assumes nothing.
use mathlib.Core.Path.{◌≡◌, sym, ap, ◌∙◌}
use lib.Dec.{eqb}
use borrow.Author.Tests.{eqb-true, eqb-false}
use Rattle.rules.specs.Values.{gives, done, refused, Values}
use Rattle.rules.specs.Refusals.{passes}
use Rattle.rules.specs.declared.Key.{Key}
use Rattle.rules.proofs.Choice.{by_pick}
use Rattle.runs.specs.Machine.{Machine, live_of, key_of}
use Rattle.runs.specs.Steps.{Step, stays, key_number_on, taken_out, remove_on, look_on, lowest, drain_on}
use Rattle.runs.specs.Tables.{Does}
use Rattle.runs.proofs.Removed.{remove_does}
use Rattle.runs.proofs.Drained.{drain_does}
use Rattle.runs.proofs.Accessed.{look_is}
use Rattle.history.specs.Calls.{Call, remove, drain}
use Rattle.history.specs.Histories.{Table, outcome, answer, looked}
use Rattle.history.proofs.Live.{passes_live, look_live}
use Rattle.history.proofs.Reduced.{Stands, lowest_key}

module _ (t : Table) (m : Machine) (s : Stands t m) where
  -- the row beside an answer that gives is that of the key, which the answer tells
  abbrev GivesBack : (Values → Key) → Step → Type 0
  GivesBack key x = x.answer.kind ≡ gives → x.row ≡ look_on m (key x.answer)

  given_back : (c : Call) (x : Step) (key : Values → Key) → Does (outcome t c) x → GivesBack key x → (answer t c).kind ≡ gives →
      (outcome t c).row ≡ looked t (key (answer t c))
  given_back c x key d h e =
      d.row
      ∙ h (ap (λ (v : Values). v.kind) (sym d.answer) ∙ e)
      ∙ ap (λ (v : Values). look_on m (key v)) (sym d.answer)
      ∙ sym (look_is _ _ _ m s (key (answer t c)))

  pub remove_gives_back : (k : Key) → (answer t (remove k)).kind ≡ gives → (outcome t (remove k)).row ≡ looked t k
  unfolding remove_on
  remove_gives_back k =
      given_back (remove k) (remove_on m k) (λ _. k) (remove_does _ _ _ m s k)
      (by_pick (GivesBack (λ _. k)) (eqb (key_number_on passes m k) 0) (taken_out m k) (stays m (refused (key_number_on passes m k)))
      (λ e _. sym (look_live m k (passes_live m k (eqb-true _ _ e)))) (λ _ e. cc))

  pub drain_gives_back : (answer t drain).kind ≡ gives → (outcome t drain).row ≡ looked t (answer t drain).key
  unfolding drain_on
  drain_gives_back =
      given_back drain (drain_on m) (λ v. v.key) (drain_does _ _ _ m s)
      (by_pick (GivesBack (λ v. v.key)) (eqb (live_of m) 0) (stays m done) (taken_out m (key_of m (lowest m)))
      (λ _ e. cc) (λ e _. sym (look_live m (key_of m (lowest m)) (lowest_key t m s (eqb-false _ _ e)))))
