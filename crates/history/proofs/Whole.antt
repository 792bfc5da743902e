-- Calls one after another: the events of all of them, what the bystander has, and the slots in use; and so of a history. Assumes nothing.
use mathlib.Core.Path.{◌≡◌, refl, sym, ap, ◌∙◌, subst, fun_ext}
use mathlib.Core.List.{List, [], ◌∷◌, ◌++◌, append_assoc}
use Prim.Native.Nat.{suc, ◌+◌, ◌≤◌, max}
use native.Mathlib.Omega.{arith}
use Rattle.rules.specs.Runs.{odd_count}
use Rattle.rules.specs.declared.Key.{Key}
use Rattle.runs.specs.Machine.{Machine, live_of}
use Rattle.runs.specs.Steps.{look_on}
use Rattle.runs.proofs.Drained.{headed}
use Rattle.runs.proofs.Accessed.{look_is}
use Rattle.history.specs.Calls.{Call}
use Rattle.history.specs.Histories.{Table, looked, next, after, answer, answers, Within, History}
use Rattle.history.specs.Bystander.{Book, reckoned}
use Rattle.history.specs.Events.{Event, removed, events, happening, happened}
use Rattle.history.specs.Slots.{live_rows, vacant_below, slots, most}
use Rattle.history.proofs.Paths.{Path, join, parted}
use Rattle.history.proofs.Counted.{some_vacant, vacant_counted}
use Rattle.history.proofs.Reduced.{Stands, reduces}
use Rattle.history.proofs.Beginnings.{begun}

-- the counts of a table that is a machine, and what it answers
module _ (t : Table) (m : Machine) (s : Stands t m) where
  pub rows_live : live_rows t ≡ live_of m
  rows_live = ap live_of s.same

  -- slots in use are those counted, and slot 0
  pub slots_are : slots t + 1 ≡ m.used
  slots_are =
      let z = headed _ _ _ m s in
      ap (λ (x : Machine). odd_count x.versions x.used + vacant_below x.versions x.used + 1) s.same
      ∙ vacant_counted m.versions m.used z.positive z.even

  pub looked_is : looked t ≡ look_on m
  looked_is = fun_ext (look_is _ _ _ m s)

pub most_now : (t : Table) (cs : List Call) → live_rows t ≤ most t cs
most_now t [] = omega arith
most_now t (c ∷ cs) = omega arith

-- calls one after another
pub record Through (t : Table) (m : Machine) (cs : List Call) : Type 0 where
  pub machine : Machine
  pub stands : Stands (after t cs) machine
  pub path : Path m (events t cs) machine
  pub has : reckoned (look_on m) cs (answers t cs) ≡ look_on machine
  pub used : machine.used ≡ max m.used (suc (most t cs))

pub through : (t : Table) (m : Machine) → Stands t m → (cs : List Call) → Within t cs → Through t m cs
through t m s [] w =
    record { machine = m; stands = s; path = refl; has = refl; used = omega (arith, some_vacant m (headed _ _ _ m s), rows_live t m s) }
through t m s (c ∷ cs) w =
    let r = reduces t m s c w.0 in
    let q = through (next t c) r.machine r.stands cs w.1 in
    record {
      machine = q.machine;
      stands = q.stands;
      path = join m (happening t c (answer t c)) r.machine (events (next t c) cs) q.machine r.becomes.path q.path;
      has = ap (λ (b : Book). reckoned b cs (answers (next t c) cs)) r.becomes.has ∙ q.has;
      used = omega (
        arith,
        r.becomes.slots.larger,
        q.used,
        rows_live t m s,
        some_vacant m (headed _ _ _ m s),
        rows_live (next t c) r.machine r.stands,
        most_now (next t c) cs,
      );
    }

-- calls in two parts: the events of the second follow those of the first
pub events_follow : (t : Table) (cs ds : List Call) → events t (cs ++ ds) ≡ events t cs ++ events (after t cs) ds
events_follow t [] ds = refl
events_follow t (c ∷ cs) ds =
    ap (λ (es : List Event). happening t c (answer t c) ++ es) (events_follow (next t c) cs ds)
    ∙ sym (append_assoc (happening t c (answer t c)) (events (next t c) cs) (events (after (next t c) cs) ds))

-- of a history: the machine that its first table is, and where its calls have led
module _ (h : History) where
  abbrev pub opening : Machine
  opening = (begun h.first h.begun).0

  pub opens : Stands h.first opening
  opens = (begun h.first h.begun).1

  pub so_far : Through h.first opening h.calls
  so_far = through h.first opening opens h.calls h.within

-- a key k that was removed in it, by whatever call, with the events fs after that
module _ (h : History) (es fs : List Event) (k : Key) (at : happened h ≡ es ++ removed k ∷ fs) where
  pub removal : (x : Machine) × Path (opening h) es x × Path x (removed k ∷ fs) (so_far h).machine
  removal =
      parted (opening h) es (removed k ∷ fs) (so_far h).machine
      (subst (λ (a : List Event). Path (opening h) a (so_far h).machine) at (so_far h).path)
