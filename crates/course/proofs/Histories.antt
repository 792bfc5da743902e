-- The stream is a history: the calls that it makes, one after the other, lead from the first table to the last. Assumes nothing.
use Prim.Native.Nat.{ℕ, zero, suc, ◌+◌}
use mathlib.Core.List.{List, [], ◌∷◌, ◌++◌}
use mathlib.Core.Bool.{Bool}
use mathlib.Core.Path.{◌≡◌, refl, sym, ap, ◌∙◌}
use lib.Dec.{eqb, ltb}
use Rattle.rules.specs.Choice.{pick}
use Rattle.rules.specs.Values.{Kind, gives, ends, refuses, Outcome, unless}
use Rattle.rules.specs.Refusals.{entry_number}
use Rattle.rules.specs.Hop.{hop_rule}
use Rattle.rules.specs.declared.Key.{Key}
use Rattle.rules.proofs.Choice.{by_test, by_pick}
use Rattle.history.specs.Calls.{Call, ask, hop}
use Rattle.history.specs.Histories.{Table, left, answer, next, after, Within}
use Rattle.wire.specs.declared.Command.{Command}
use Rattle.wire.specs.declared.Saying.{Saying}
use Rattle.wire.specs.Commands.{command_of, body_length}
use Rattle.commands.specs.Turns.{Run, table_of, key_of, calm, command_turn}
use Rattle.commands.specs.declared.Phase.{Phase}
use Rattle.hearing.specs.Heard.{gathered, with_byte, heard_in, heard}
use Rattle.course.specs.Course.{Course, standing, walks, walked_in, walked, walked_out, course}
use Rattle.course.specs.Calls.{command_calls, gathered_calls, heard_calls_in, heard_calls, shown_calls, step_calls, walk_calls_in, walk_calls, walked_out_calls, calls}
use Rattle.stream.proofs.Repeats.{kept}
use Rattle.course.proofs.Walks.{look_table, walk_table}

-- calls after calls
after_both : (t : Table) (xs ys : List Call) → after t (xs ++ ys) ≡ after (after t xs) ys
after_both t [] ys = refl
after_both t (x ∷ xs) ys = after_both (next t x) xs ys

-- a walk leaves the table as it was, and so do the questions that it asks
walked_table : (x : Course) → table_of (walked x).run ≡ table_of x.run
unfolding walked
walked_table x = by x.run.stream.phase
  where
    by : (p : Phase) → table_of (walked_in p x).run ≡ table_of x.run
    by Phase.Between = refl
    by (Phase.Gathering k got) = refl
    by (Phase.Walking c) = walk_table x.run c
    by Phase.Ended = refl

pub walked_out_table : (s : Run) → table_of (walked_out s).run ≡ table_of s
unfolding walked_out
walked_out_table s =
    kept walks walked (λ (x : Course). table_of x.run ≡ table_of s) (λ x _ e. walked_table x ∙ e) (suc s.stream.header.used) (standing s) refl

hop_same : (t : Table) (c : ℕ) → next t (ask (hop c)) ≡ t
unfolding hop_rule unless
hop_same t c = by_pick (λ (o : Outcome). left o ≡ t) (eqb (entry_number t.links t.rows t.header) 0) _ _ (λ _. refl) (λ _. refl)

shown_same : (t : Table) (k : Kind) (key : Key) → after t (shown_calls k key) ≡ t
shown_same t gives key = refl
shown_same t ends key = refl
shown_same t refuses key = refl

step_same : (s : Run) (c : ℕ) → after (table_of s) (step_calls s c) ≡ table_of s
step_same s c =
    let a = answer (table_of s) (ask (hop c)) in
    ap (λ (t : Table). after t (shown_calls a.kind a.key)) (hop_same (table_of s) c) ∙ shown_same (table_of s) a.kind a.key

walk_same : (n : ℕ) (s : Run) → after (table_of s) (walk_calls n s) ≡ table_of s
walk_same zero s = refl
walk_same (suc n) s =
    let s' = (walked (standing s)).run in
    by s.stream.phase (walk_calls n s') (rw (walked_table (standing s)) at (walk_same n s'))
  where
    by : (p : Phase) (more : List Call) → after (table_of s) more ≡ table_of s → after (table_of s) (walk_calls_in p s more) ≡ table_of s
    by Phase.Between more e = refl
    by (Phase.Gathering k got) more e = refl
    by (Phase.Walking c) more e =
        after_both (table_of s) (step_calls s c) more ∙ ap (λ (t : Table). after t more) (step_same s c) ∙ e
    by Phase.Ended more e = refl

-- a byte leads where its calls lead
command_leads : (k : Command) (s : Run) → table_of (command_turn k s).run ≡ after (table_of s) (command_calls k s)
command_leads Command.Insert s = refl
command_leads Command.Remove s = refl
command_leads Command.Look s = look_table s.links s.rows s.stream.header (key_of s)
command_leads Command.Clear s = refl
command_leads Command.Walk s = refl
command_leads Command.Unknown s = refl

gathered_leads : (k : Command) (got : ℕ) (s : Run) → table_of (gathered k got s).run ≡ after (table_of s) (gathered_calls k got s)
gathered_leads k got s =
    by_test (λ (t : Bool). table_of (pick t (calm s (Phase.Gathering k got) Saying.Silent) (command_turn k s)).run
    ≡ after (table_of s) (pick t [] (command_calls k s)))
    (ltb got (body_length k)) (λ _. refl) (λ _. command_leads k s)

heard_leads : (s : Run) (b : ℕ) → table_of (heard s b).run ≡ after (table_of s) (heard_calls s b)
unfolding heard
heard_leads s b = by s.stream.phase
  where
    by : (p : Phase) → table_of (heard_in p s b).run ≡ after (table_of s) (heard_calls_in p s b)
    by Phase.Between = gathered_leads (command_of b) 0 s
    by (Phase.Gathering k got) = gathered_leads k (got + 1) (with_byte s got b)
    by (Phase.Walking c) = refl
    by Phase.Ended = refl

-- all the bytes lead where all the calls lead
pub calls_lead : (s : Run) (bs : List ℕ) → table_of (course s bs).run ≡ after (table_of s) (calls s bs)
calls_lead s [] = walked_out_table s ∙ sym (walk_same (suc s.stream.header.used) s)
calls_lead s (b ∷ bs) =
    let x = (walked_out s).run in
    let y = (heard x b).run in
    let settles : table_of x ≡ after (table_of s) (walked_out_calls s) = walked_out_table s ∙ sym (walk_same (suc s.stream.header.used) s) in
    let hears : table_of y ≡ after (table_of s) (walked_out_calls s ++ heard_calls x b) =
    heard_leads x b ∙ ap (λ (t : Table). after t (heard_calls x b)) settles ∙ sym (after_both (table_of s) (walked_out_calls s) (heard_calls x b)) in
    calls_lead y bs
    ∙ ap (λ (t : Table). after t (calls y bs)) hears
    ∙ sym (after_both (table_of s) (walked_out_calls s ++ heard_calls x b) (calls y bs))

-- none of the calls begins a history, on whatever table they are made
abbrev GoOn : List Call → Type 0
GoOn cs = (t : Table) → Within t cs

then_within : (t : Table) (xs ys : List Call) → Within t xs → GoOn ys → Within t (xs ++ ys)
then_within t [] ys w g = g t
then_within t (x ∷ xs) ys w g = (w.0, then_within (next t x) xs ys w.1 g)

both_go : (xs ys : List Call) → GoOn xs → GoOn ys → GoOn (xs ++ ys)
both_go xs ys f g t = then_within t xs ys (f t) g

step_goes : (s : Run) (c : ℕ) → GoOn (step_calls s c)
step_goes s c t =
    let a = answer (table_of s) (ask (hop c)) in
    (tt, by a.kind a.key)
  where
    by : (k : Kind) (key : Key) → Within (next t (ask (hop c))) (shown_calls k key)
    by gives key = (tt, tt)
    by ends key = tt
    by refuses key = tt

walk_goes : (n : ℕ) (s : Run) → GoOn (walk_calls n s)
walk_goes zero s = λ t. tt
walk_goes (suc n) s = by s.stream.phase (walk_calls n (walked (standing s)).run) (walk_goes n (walked (standing s)).run)
  where
    by : (p : Phase) (more : List Call) → GoOn more → GoOn (walk_calls_in p s more)
    by Phase.Between more g = λ t. tt
    by (Phase.Gathering k got) more g = λ t. tt
    by (Phase.Walking c) more g = both_go (step_calls s c) more (step_goes s c) g
    by Phase.Ended more g = λ t. tt

command_goes : (k : Command) (s : Run) → GoOn (command_calls k s)
command_goes Command.Insert s t = (tt, tt)
command_goes Command.Remove s t = (tt, tt)
command_goes Command.Look s t = (tt, tt)
command_goes Command.Clear s t = (tt, tt)
command_goes Command.Walk s t = tt
command_goes Command.Unknown s t = tt

gathered_goes : (k : Command) (got : ℕ) (s : Run) → GoOn (gathered_calls k got s)
gathered_goes k got s = by_pick GoOn (ltb got (body_length k)) _ _ (λ _ t. tt) (λ _. command_goes k s)

heard_goes : (s : Run) (b : ℕ) → GoOn (heard_calls s b)
heard_goes s b = by s.stream.phase
  where
    by : (p : Phase) → GoOn (heard_calls_in p s b)
    by Phase.Between = gathered_goes (command_of b) 0 s
    by (Phase.Gathering k got) = gathered_goes k (got + 1) (with_byte s got b)
    by (Phase.Walking c) = λ t. tt
    by Phase.Ended = λ t. tt

calls_go : (s : Run) (bs : List ℕ) → GoOn (calls s bs)
calls_go s [] = walk_goes (suc s.stream.header.used) s
calls_go s (b ∷ bs) =
    let x = (walked_out s).run in
    both_go (walked_out_calls s ++ heard_calls x b) (calls (heard x b).run bs)
    (both_go (walked_out_calls s) (heard_calls x b) (walk_goes (suc s.stream.header.used) s) (heard_goes x b))
    (calls_go (heard x b).run bs)

pub calls_within : (s : Run) (bs : List ℕ) → Within (table_of s) (calls s bs)
calls_within s bs = calls_go s bs (table_of s)
