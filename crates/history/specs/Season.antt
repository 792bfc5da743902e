-- A short season on four slots lent: a history told call by call, the answer beside each call, and what there is to say of it.
-- proofs/Tried has the one statement.
use Rattle.std.specs.Prelude.{ℕ, ◌*◌, List, [], ◌∷◌, ◌++◌, map, ◌≡◌, refl, take}
use Rattle.rules.specs.Words.{row_words, zero_row}
use Rattle.rules.specs.Values.{Values, keyed, visited, counted, done, refused}
use Rattle.rules.specs.Refusals.{shape, not_live, full}
use Rattle.rules.specs.Bench.{lend, buoy, key}
use Rattle.rules.specs.declared.Key.{Key}
use Rattle.history.specs.Calls.{Row, start, rebuild, number, hop, check, room, Call, begin, ask, insert, remove, write, replace, drain, clear, retain, begin_rule}
use Rattle.history.specs.Histories.{Table, left, outcome, looked, after, answers, Begun, Within}
use Rattle.history.specs.Bystander.{reckoned}
use Rattle.history.specs.Events.{Event, handed, removed, wrote, events, seen}
use Rattle.history.specs.Slots.{slots, most}

-- the table that start leaves, of tables full of other words
abbrev pub opened : Table
opened = left (begin_rule start (lend 4).links (lend 4).rows (lend 4).header)

abbrev row : ℕ → Row
row n = record { words = buoy n; eight = refl }

-- two buoys are heard, and the first is lost
abbrev pub lost : List (Call × Values)
lost =
    (insert (buoy 1), keyed (key 1 1))
    ∷ (insert (buoy 2), keyed (key 2 1))
    ∷ (remove (key 1 1), keyed (key 1 1))
    ∷ []

-- its slot goes to a third; the old key is dead; the rows of live keys are written over
abbrev pub early : List (Call × Values)
early =
    lost
    ++ ((insert (buoy 3), keyed (key 1 3))
    ∷ (ask (number (key 1 1)), refused not_live)
    ∷ (replace (key 1 1) (buoy 9), refused not_live)
    ∷ (write (key 1 1) (row 9), refused not_live)
    ∷ (replace (key 2 1) (buoy 4), done)
    ∷ (write (key 1 3) (row 5), done)
    ∷ [])

-- a rebuild of no slots is refused; the table fills; slot 2 is struck out, the lowest drained, and one more heard
abbrev pub middle : List (Call × Values)
middle =
    early
    ++ ((begin (rebuild []), refused shape)
    ∷ (insert (buoy 6), keyed (key 3 1))
    ∷ (insert (buoy 7), refused full)
    ∷ (ask (hop 0), visited (key 1 3) 2)
    ∷ (retain (0 ∷ 1 ∷ 0 ∷ 1 ∷ []), counted 1)
    ∷ (drain, keyed (key 1 3))
    ∷ (insert (buoy 8), keyed (key 2 3))
    ∷ [])

-- all is cleared
abbrev pub season : List (Call × Values)
season = middle ++ ((clear, done) ∷ (ask check, done) ∷ (ask room, counted 4) ∷ [])

abbrev pub calls : List (Call × Values) → List Call
calls = map (λ (x : Call × Values). x.0)

abbrev pub heard : List (Call × Values) → List Values
heard = map (λ (x : Call × Values). x.1)

-- all that happens
abbrev pub story : List Event
story =
    handed (key 1 1) (buoy 1)
    ∷ handed (key 2 1) (buoy 2)
    ∷ removed (key 1 1)
    ∷ handed (key 1 3) (buoy 3)
    ∷ wrote (key 2 1) (buoy 4)
    ∷ wrote (key 1 3) (buoy 5)
    ∷ handed (key 3 1) (buoy 6)
    ∷ removed (key 2 1)
    ∷ removed (key 1 3)
    ∷ handed (key 2 3) (buoy 8)
    ∷ removed (key 2 3)
    ∷ removed (key 3 1)
    ∷ []

abbrev keys : List Key
keys = key 1 1 ∷ key 1 3 ∷ key 2 1 ∷ key 2 3 ∷ key 3 1 ∷ []

-- what the bystander has of these keys, and what look hands out for them, after the calls
abbrev known : List (Call × Values) → List (List ℕ)
known told = map (reckoned (λ k. []) (calls told) (heard told)) keys

abbrev found : List (Call × Values) → List (List ℕ)
found told = map (looked (after opened (calls told))) keys

-- the rows of the first three slots
abbrev words : List (Call × Values) → List ℕ
words told = take (3 * row_words) (after opened (calls told)).rows

pub record Told : Type 0 where
  -- it is a history, with these answers
  pub begun : Begun opened
  pub within : Within opened (calls season)
  pub answered : answers opened (calls season) ≡ heard season
  -- live keys and rows, as reckoned and as they are, early and in the middle; the rows of slots 0 to 2; a row handed back
  pub early_known : known early ≡ [] ∷ buoy 5 ∷ buoy 4 ∷ [] ∷ [] ∷ []
  pub early_found : found early ≡ [] ∷ buoy 5 ∷ buoy 4 ∷ [] ∷ [] ∷ []
  pub middle_known : known middle ≡ [] ∷ [] ∷ [] ∷ buoy 8 ∷ buoy 6 ∷ []
  pub middle_found : found middle ≡ [] ∷ [] ∷ [] ∷ buoy 8 ∷ buoy 6 ∷ []
  pub first_words : words lost ≡ zero_row ++ zero_row ++ buoy 2
  pub early_words : words early ≡ zero_row ++ buoy 5 ++ buoy 4
  pub row_handed_back : (outcome (after opened (calls early)) drain).row ≡ buoy 5
  -- what happened; removals at slots 1, 2 and 3
  pub happened : events opened (calls season) ≡ story
  pub removals : map (λ i. seen i story) (1 ∷ 2 ∷ 3 ∷ []) ≡ 2 ∷ 2 ∷ 1 ∷ []
  -- slots in the end, and the most rows ever live
  pub lasting : slots (after opened (calls season)) ≡ 3
  pub highest : most opened (calls season) ≡ 3
