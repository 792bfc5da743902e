-- The last sentence of demand 3 is sharp: after exactly so many removals an insert into that slot hands out the same key. Assumes nothing.
use mathlib.Core.Path.{◌≡◌, ap, ◌∙◌, subst}
use mathlib.Core.List.{List, [], ◌∷◌, ◌++◌}
use Prim.Native.Nat.{ℕ, ◌<◌, ◌^◌}
use Rattle.rules.specs.Values.{Kind, gives}
use Rattle.rules.specs.declared.Key.{Key}
use Rattle.runs.specs.Machine.{Machine}
use Rattle.history.specs.Calls.{insert}
use Rattle.history.specs.Histories.{answer, History, now}
use Rattle.history.specs.Bystander.{if_given}
use Rattle.history.specs.Events.{Event, handed, removed, seen, happened}
use Rattle.history.specs.Versions.{refilled_times, round}
use Rattle.history.proofs.Live.{same_key_lem}
use Rattle.history.proofs.Paths.{Path}
use Rattle.history.proofs.Ages.{filled_again, comes_round}
use Rattle.history.proofs.Reduced.{reduces}
use Rattle.history.proofs.Whole.{so_far, removal}

pub hands_out_again : (h : History) (es fs : List Event) (k : Key) → happened h ≡ es ++ removed k ∷ fs → k.version < 2 ^ 32 →
    seen k.index (removed k ∷ fs) ≡ round → (side : List ℕ) →
    let a = answer (now h) (insert side) in a.kind ≡ gives → a.key.index ≡ k.index → a.key ≡ k
hands_out_again h es fs k at word all side e i =
    let m : Machine = (so_far h).machine in
    let parts = removal h es fs k at in
    let a = answer (now h) (insert side) in
    let r = reduces (now h) m (so_far h).stands (insert side) tt in
    let p = subst (λ (given : Kind). Path m (if_given given (handed a.key side ∷ []) []) r.machine) e r.becomes.path in
    let v = filled_again parts.0 k fs m parts.2 a.key side p.0 p.1 i in
    same_key_lem a.key k i (v ∙ ap (λ (n : ℕ). refilled_times n k.version) all ∙ comes_round k.version parts.2.1.live.odd word)
