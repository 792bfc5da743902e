-- What happens in a call, slot by slot: keys handed out, keys removed, rows written through a live key, or nothing at all.
use Rattle.std.specs.Prelude.{ℕ, zero, suc, ◌+◌, List, [], ◌∷◌, ◌++◌, Bool, true}
use Rattle.rules.specs.Choice.{pick, both, alike}
use Rattle.rules.specs.Words.{version_at, occupied_by}
use Rattle.rules.specs.Values.{Values}
use Rattle.rules.specs.Retain.{struck_by}
use Rattle.rules.specs.declared.Key.{Key}
use Rattle.history.specs.Calls.{Call, begin, ask, insert, remove, write, replace, drain, clear, retain}
use Rattle.history.specs.Histories.{Table, answer, next, History}
use Rattle.history.specs.Bystander.{Book, same_key, entered, struck, if_given, unless_refused}

pub data Event : Type 0 where
  handed : (key : Key) (row : List ℕ) → Event
  removed : (key : Key) → Event
  wrote : (key : Key) (row : List ℕ) → Event

-- the keys of the occupied slots below n that are chosen, removed in rising order
unfoldable pub all_removed : (ℕ → Bool) → (ℕ → ℕ) → ℕ → ℕ → List Event
all_removed chosen v used zero = []
all_removed chosen v used (suc n) =
    all_removed chosen v used n
    ++ pick (both (occupied_by v used n) (chosen n)) (removed (record { index = n; version = v n }) ∷ []) []

abbrev pub chosen_removed : (ℕ → Bool) → Table → List Event
chosen_removed chosen t = all_removed chosen (version_at t.links t.header.used) t.header.used t.header.used

-- what happens in a call, told by its answer; only where all or the chosen go, the table is asked which were live
abbrev pub happening : Table → Call → Values → List Event
happening t (begin b) a = []
happening t (ask q) a = []
happening t (insert side) a = if_given a.kind (handed a.key side ∷ []) []
happening t (remove k) a = unless_refused a.kind (removed k ∷ []) []
happening t (write k row) a = unless_refused a.kind (wrote k row.words ∷ []) []
happening t (replace k side) a = unless_refused a.kind (wrote k side ∷ []) []
happening t drain a = if_given a.kind (removed a.key ∷ []) []
happening t clear a = unless_refused a.kind (chosen_removed (λ i. true) t) []
happening t (retain bytes) a = unless_refused a.kind (chosen_removed (struck_by bytes) t) []

-- all that happens in calls, in order
abbrev pub events : Table → List Call → List Event
events t [] = []
events t (c ∷ cs) = happening t c (answer t c) ++ events (next t c) cs

abbrev pub happened : History → List Event
happened h = events h.first h.calls

-- the book after an event, and after all of them
abbrev pub told : Event → Book → Book
told (handed k row) book = entered k row book
told (removed k) book = struck (same_key k) book
told (wrote k row) book = entered k row book

abbrev pub all_told : List Event → Book → Book
all_told [] book = book
all_told (e ∷ es) book = all_told es (told e book)

-- how many removals slot i sees
abbrev pub sees : ℕ → Event → ℕ
sees i (handed k row) = 0
sees i (removed k) = alike i k.index
sees i (wrote k row) = 0

abbrev pub seen : ℕ → List Event → ℕ
seen i [] = 0
seen i (e ∷ es) = sees i e + seen i es
