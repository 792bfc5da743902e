-- The customer's demands 1 and 3 as statements, to be read top down beside the work order; proofs/Demands has a term of each record.
-- Demand 2 is the rules themselves and the runs beside the original.
--
-- What they speak of, to be read next, in this order; there is nothing else behind them:
--   rules/specs   the rule of each call, and what it is made of; Given, one of these numbers; Runs and Sound, a sound table
--   Calls         every public call, and its rule
--   Histories     a table, what a call answers and leaves; Refused, Begun, GoesOn, Within, History
--   Bystander     what is reckoned from calls and answers alone: keys_reckoned
--   Events        what happens in a call, and how many removals a slot sees: events_tell, dead
--   Versions      how many removals make a round: dead
--   Slots         live rows, vacant slots, the most rows ever live: slots_law, no_slot_lost, none_added
--   Refusals      given_by and no_row: demand 1; Numbers and Full, which is said with NoneVacant of runs/specs/Tables: numbers
use Rattle.std.specs.Prelude.{ℕ, ◌≤◌, ◌<◌, max, List, ◌∷◌, ◌++◌, true, ◌≡◌, ◌≢◌}
use Rattle.rules.specs.Values.{gives, done, refused}
use Rattle.rules.specs.Refusals.{not_live, shape_number}
use Rattle.rules.specs.Given.{one_of}
use Rattle.rules.specs.Start.{start_rule}
use Rattle.rules.specs.Rebuild.{rebuild_rule}
use Rattle.rules.specs.Sound.{Sound}
use Rattle.rules.specs.declared.Header.{Header}
use Rattle.rules.specs.declared.Key.{Key}
use Rattle.history.specs.Calls.{Call, ask, number, check, remove, drain}
use Rattle.history.specs.Histories.{Table, left, outcome, answer, next, after, looked, Refused, Begun, GoesOn, Within, History, now, heard}
use Rattle.history.specs.Bystander.{reckoned}
use Rattle.history.specs.Events.{Event, removed, all_told, seen, happened}
use Rattle.history.specs.Slots.{vacant_slots, slots, most}
use Rattle.history.specs.Versions.{round}
use Rattle.history.specs.Refusals.{given_by, no_row, Numbers}

-- 1. "Any words in the tables, any key, any cursor": any table and header, any call with any arguments, nothing asked of them. That each
-- call ends and stays inside what was lent is asked of the code by the prover itself. A side buffer is lent to read: no outcome has one.
pub record Demand1 : Type 0 where
  -- "and either does its work": its rule's step, and 0 for the number
  pub works : (t : Table) (c : Call) → (Refused (outcome t c) → ⊥) → (answer t c).number ≡ 0
  -- "or refuses with a number from document 01": with one that its table gives this call
  pub numbered : (t : Table) (c : Call) → Refused (outcome t c) → one_of (given_by c) (answer t c).number ≡ true
  -- "A refused call changes no word of any lent buffer and hands back the header it was given."
  pub unchanged : (t : Table) (c : Call) → Refused (outcome t c) → next t c ≡ t
  -- document 01: a refusal returns its number, zero for any key, cursor or count, and zero for a row by value
  pub zeros : (t : Table) (c : Call) → Refused (outcome t c) → answer t c ≡ refused (answer t c).number
  pub row_zeroed : (t : Table) (c : Call) → Refused (outcome t c) → (outcome t c).row ≡ no_row c

-- 3. "Take any sequence of calls after a start or rebuild not refused and before the next one, each given the same tables and the header
-- last handed back, no table word written otherwise but a row through its live key": History. Such a write is a call there.
pub record Demand3 : Type 0 where
  pub start_begins : (l r : List ℕ) (hd : Header) → (Refused (start_rule l r hd) → ⊥) → Begun (left (start_rule l r hd))
  pub rebuild_begins : (l r : List ℕ) (hd : Header) (bytes : List ℕ) → (Refused (rebuild_rule l r hd bytes) → ⊥) →
      Begun (left (rebuild_rule l r hd bytes))
  -- "Live keys, reckoned call by call, are those at the start plus those handed out less those removed, each row as last written."
  -- Reckoned by a bystander, who hears calls and answers and sees no table; and told by the events
  pub keys_reckoned : (h : History) (k : Key) → looked (now h) k ≡ reckoned (looked h.first) h.calls (heard h) k
  pub events_tell : (h : History) (k : Key) → looked (now h) k ≡ all_told (happened h) (looked h.first) k
  -- a row that a removal hands back by value is the one that its key had
  pub removed_row : (h : History) (k : Key) → (answer (now h) (remove k)).kind ≡ gives → (outcome (now h) (remove k)).row ≡ looked (now h) k
  pub drained_row : (h : History) → (answer (now h) drain).kind ≡ gives → (outcome (now h) drain).row ≡ looked (now h) (answer (now h) drain).key
  -- "The chain from slot 0 holds exactly the maximal vacant runs, each once": Circle, of Sound. So the soundness check never refuses
  pub shaped : (h : History) → shape_number (now h).links (now h).rows (now h).header ≡ 0
  pub sound : (h : History) → Sound (now h).links (now h).header
  pub check_passes : (h : History) → answer (now h) (ask check) ≡ done
  -- "Live rows plus vacant slots, slot 0 not counted, equal the larger of the slots so counted at the start and the most rows ever live at
  -- once since."
  pub slots_law : (h : History) → slots (now h) ≡ max (slots h.first) (most h.first h.calls)
  -- "So no slot is lost, and none is added while one is vacant."
  pub no_slot_lost : (h : History) (ds : List Call) → Within (now h) ds → slots (now h) ≤ slots (after (now h) ds)
  pub none_added : (h : History) (c : Call) → GoesOn (now h) c → vacant_slots (now h) ≢ 0 → slots (next (now h) c) ≡ slots (now h)
  -- "A removed key stays dead until its slot has seen 2,147,483,648 removals since, its own the first": removed wherever in the history, by
  -- whatever call, and the events fs follow
  pub dead : (h : History) (es fs : List Event) (k : Key) → happened h ≡ es ++ removed k ∷ fs → seen k.index (removed k ∷ fs) < round →
      answer (now h) (ask (number k)) ≡ refused not_live
  -- document 01, of sound tables: 2 is never given, and 5 only to an insert at a full table. Of any call that comes next
  pub numbers : (h : History) (c : Call) → Numbers (now h) c
