-- A walk: hop steps one after the other, each from the cursor that the step before gave. And what it ought to visit: the keys of
-- the live slots, in rising order.
use Rattle.std.specs.Prelude.{ℕ, zero, suc, ◌+◌, ◌≤◌, List, [], ◌∷◌, map, true, ◌≡◌}
use Rattle.rules.specs.Choice.{pick}
use Rattle.rules.specs.Words.{occupied_by}
use Rattle.rules.specs.Values.{Kind, gives, ends, refuses, Values}
use Rattle.rules.specs.Refusals.{live_by}
use Rattle.rules.specs.Hop.{hop_rule}
use Rattle.rules.specs.declared.Header.{Header}
use Rattle.rules.specs.declared.Key.{Key}
use Rattle.runs.specs.Machine.{Machine, key_of}

-- the keys in the order of the visits, and the answer that stands after the last of them
pub record Walk : Type 0 where
  pub keys : List Key
  pub end : Values

abbrev pub ended : Values → Walk
ended a = record { keys = []; end = a }

abbrev pub visiting : Key → Walk → Walk
visiting k w = record { keys = k ∷ w.keys; end = w.end }

-- after the answer a of kind t: a visit goes on the list, and the walk goes on from its cursor; any other answer ends it
abbrev pub onward : (ℕ → Walk) → Values → Kind → Walk
onward walkFrom a gives = visiting a.key (walkFrom a.cursor)
onward walkFrom a ends = ended a
onward walkFrom a refuses = ended a

-- from cursor c, at most d visits; the step after them is still asked for its answer. A hop step changes no word, so each is asked
-- of the same tables
unfoldable pub walk : List ℕ → List ℕ → Header → ℕ → ℕ → Walk
walk l r hd zero c = ended (hop_rule l r hd c).answer
walk l r hd (suc d) c = let a = (hop_rule l r hd c).answer in onward (walk l r hd d) a a.kind

-- the keys of the occupied slots among the d slots from slot k up
unfoldable pub live_keys : Machine → ℕ → ℕ → List Key
live_keys m zero k = []
live_keys m (suc d) k =
    pick (occupied_by m.versions m.used k) (key_of m k ∷ live_keys m d (k + 1)) (live_keys m d (k + 1))

-- the slots of the keys
abbrev pub indices : List Key → List ℕ
indices = map (λ k. k.index)

-- each slot is above the one before it, the first at least n
abbrev pub AscendingFrom : ℕ → List Key → Type 0
AscendingFrom n [] = Unit {0}
AscendingFrom n (k ∷ ks) = (n ≤ k.index) × AscendingFrom (k.index + 1) ks

abbrev pub Ascending : List Key → Type 0
Ascending ks = AscendingFrom 0 ks

-- every key is live
abbrev pub AllLive : Machine → List Key → Type 0
AllLive m [] = Unit {0}
AllLive m (k ∷ ks) = (live_by m.versions m.used k ≡ true) × AllLive m ks
