-- The test of a state lets through exactly those that some bytes leave, on some tables. Assumes nothing.
use Prim.Native.Nat.{ℕ, zero, suc, ◌+◌, ◌-◌, ◌*◌, ◌/◌, ◌%◌, ◌≤◌, ◌<◌}
use mathlib.Core.List.{List, [], ◌∷◌, ◌++◌}
use mathlib.Core.Bool.{true, false}
use mathlib.Core.Path.{◌≡◌, refl, sym, ◌∙◌}
use native.Mathlib.Omega.{arith}
use native.Mathlib.Numerals.{add-one}
use lib.ListN.{length, set, take, replicate, length-set, length-replicate, get_or-replicate}
use lib.Seq.{get_or-set_same, get_or-set_other}
use lib.Dec.{eqb, leb}
use borrow.Author.Tests.{not-false, ltb-true, leb-true, eqb-true, lt-ltb, le-ltb, eq-eqb, ne_eqb}
use Rattle.rules.specs.Words.{limit, link_words, row_words, link_at, version_at, next_at, other_end_at, vacant_at, occupied_at, key_at}
use Rattle.rules.specs.Values.{Outcome, unless}
use Rattle.rules.specs.Refusals.{◌▸◌, lent_number, header_number, shape_number, zero_number, entry_number}
use Rattle.rules.specs.Insert.{insert_links, insert_number, insert_by, insert_rule}
use Rattle.rules.specs.Hop.{visit, hop_from, hop_rule}
use Rattle.rules.specs.Runs.{past_front}
use Rattle.rules.specs.declared.Header.{Header}
use Rattle.rules.proofs.Choice.{by_pick, both_true, both_if}
use Rattle.rules.proofs.Refusals.{passed}
use Rattle.rules.proofs.Shape.{shaped}
use Rattle.rules.proofs.SlotTests.{vacant_yes, occupied_yes}
use Rattle.rules.proofs.Links.{insert_passed}
use Rattle.rules.proofs.HopSteps.{over_run}
use Rattle.history.specs.Histories.{left}
use Rattle.wire.specs.declared.Command.{Command}
use Rattle.wire.specs.Commands.{body_bytes}
use Rattle.commands.specs.Turns.{Run}
use Rattle.commands.specs.declared.Phase.{Phase}
use Rattle.commands.specs.declared.Stream.{Stream}
use Rattle.hearing.specs.Heard.{possible_in, possible}
use Rattle.stream.specs.Feeding.{feed_number}
use Rattle.course.specs.Pieces.{none}
use Rattle.course.proofs.Possible.{pieces_possible}
use Rattle.course.proofs.Ways.{zeros, way_in, kind_byte, Leads, from_start, gathering_from, ended_from, walking_from}

-- what is asked of a state besides the test: a header that goes with some tables, and a body of the right length
pub record Sized (x : Stream) : Type 0 where
  pub some : 1 ≤ x.header.used
  pub most : x.header.used ≤ limit
  pub few : x.header.live < x.header.used
  pub body : length x.body ≡ body_bytes

shape_is : (l r : List ℕ) (hd : Header) → length l ≡ hd.used * link_words → length r ≡ hd.used * row_words →
    1 ≤ hd.used → hd.used ≤ limit → hd.live < hd.used → shape_number l r hd ≡ 0
unfolding shape_number header_number lent_number ◌▸◌
shape_is l r hd e f some most few =
    let u = hd.used in
    let lent : u * link_words / link_words ≡ u = omega arith in
    let none : u ≡ 0 → ⊥ = λ z. omega arith in
    rw (e, f)
    (simp (
      eq-eqb (u * link_words % link_words) 0 (omega arith),
      eq-eqb (u * row_words % row_words) 0 (omega arith),
      eq-eqb (u * link_words / link_words) (u * row_words / row_words) (omega arith),
      ne_eqb (u * link_words / link_words) 0 (λ z. omega arith),
      le-ltb limit (u * link_words / link_words) (omega arith),
      ne_eqb u 0 none,
      le-ltb (u * link_words / link_words) u (omega arith),
      le-ltb (u - 1) hd.live (omega arith),
    ))

-- the words of all slots but slot 0
abbrev zero_words : ℕ → List ℕ
zero_words u = replicate ((u - 1) * link_words) 0

-- all slots lent are in use and zero, but for: next(0), which goes astray, so that insert is refused; other_end(0), which is j; and the version
-- of the slot after j, 1, so that a walk shows that slot first
abbrev links_to : ℕ → ℕ → List ℕ
links_to u j = 0 ∷ u ∷ 0 ∷ j ∷ set (zero_words u) (j * link_words) 1

abbrev rows_of : ℕ → List ℕ
rows_of u = replicate (u * row_words) 0

module _ (hd : Header) (j : ℕ) (some : 1 ≤ hd.used) (most : hd.used ≤ limit) (few : hd.live < hd.used) where
  abbrev u : ℕ
  u = hd.used

  abbrev l : List ℕ
  l = links_to u j

  abbrev r : List ℕ
  r = rows_of u

  shape_to : shape_number l r hd ≡ 0
  shape_to =
      let e : length (set (zero_words u) (j * link_words) 1) ≡ (u - 1) * link_words =
      length-set (zero_words u) (j * link_words) 1 ∙ length-replicate ((u - 1) * link_words) 0 in
      shape_is l r hd (omega (arith, e)) (length-replicate (u * row_words) 0) some most few

  astray_0 : next_at l u 0 ≡ u
  unfolding link_at
  astray_0 = rw (lt-ltb 0 u some) refl

  declines_to : (row : List ℕ) → left (insert_rule l r hd row) ≡ record { links = l; rows = r; header = hd }
  unfolding insert_rule insert_by unless
  declines_to row =
      let x = insert_links l u in
      by_pick (λ (o : Outcome). left o ≡ record { links = l; rows = r; header = hd }) (eqb (insert_number l r hd row x) 0) _ _
      (λ z. absurd (omega (arith, (insert_passed l r hd row x (eqb-true _ _ z)).run.front.below, astray_0)))
      (λ _. refl)

  other_0 : j ≡ other_end_at l u 0
  unfolding link_at
  other_0 = rw (lt-ltb 0 u some) refl

  -- the version of slot 0 and of slot j is 0, that of the slot after j is 1
  version_0 : version_at l u 0 ≡ 0
  unfolding link_at
  version_0 = rw (lt-ltb 0 u some) refl

  module _ (below : suc j < u) where
    version_j : (i : ℕ) → i ≡ j → version_at l u i ≡ 0
    unfolding link_at
    version_j zero e = rw (lt-ltb 0 u some) refl
    version_j (suc i) e =
        let n : suc i * link_words + 0 ≡ suc (suc (suc (suc (i * link_words)))) = omega arith in
        let apart : i * link_words ≡ j * link_words → ⊥ = λ q. omega arith in
        rw (lt-ltb (suc i) u (omega arith), n)
        (get_or-set_other (zero_words u) (j * link_words) (i * link_words) 1 0 apart ∙ get_or-replicate ((u - 1) * link_words) (i * link_words) 0 0 (omega arith))

    version_next : version_at l u (suc j) ≡ 1
    unfolding link_at
    version_next =
        let n : suc j * link_words + 0 ≡ suc (suc (suc (suc (j * link_words)))) = omega arith in
        rw (lt-ltb (suc j) u below, n)
        (get_or-set_same (zero_words u) (j * link_words) 1 0 (rw (length-replicate {A = ℕ} ((u - 1) * link_words) 0) (omega arith)))

    -- the first step of a walk shows the slot after j
    entry : entry_number l r hd ≡ 0
    unfolding entry_number zero_number ◌▸◌
    entry = rw (shape_to, version_0) refl

    over : visit l u (suc j) ≡ hop_from l hd 0
    unfolding vacant_at occupied_at past_front
    over =
        let v = version_at l u in
        let first : vacant_at l u 0 ≡ true = vacant_yes v u 0 some (rw version_0 refl) in
        let last : vacant_at l u j ≡ true = vacant_yes v u j (omega arith) (rw (version_j j refl) refl) in
        let next : occupied_at l u (suc j) ≡ true = occupied_yes v u (suc j) below (rw version_next refl) in
        let law = over_run l hd 0 j other_0 first (both_if (vacant_at l u 0) false (λ _. refl)) last (omega arith) in
        rw (add-one j, ne_eqb (suc j) u (λ z. omega arith), next) at law

    first_shows : (hop_rule l r hd 0).answer ≡ visit l u (suc j)
    unfolding hop_rule unless
    first_shows = rw entry (sym over)

-- the state before the first byte, with the same header
abbrev pub first : Stream → Stream
first x = record { header = x.header; phase = Phase.Between; body = zeros }

-- the bytes that lead from it to a state: the body as a row that is refused, then the way to the phase
abbrev pub bytes_to : Stream → List ℕ
bytes_to x = 1 ∷ (x.body ++ way_in x.phase x.body)

-- a state that these bytes leave, on some tables, which stay as they are
pub record LeftBy (x : Stream) (bytes : List ℕ) : Type 0 where
  pub links : List ℕ
  pub rows : List ℕ
  pub leads : Leads (record { links = links; rows = rows; stream = first x }) bytes (record { links = links; rows = rows; stream = x })

-- a walk stands after a slot in use, not slot 0
stands_after : (c : ℕ) (hd : Header) → possible_in (Phase.Walking c) hd ≡ true → (2 ≤ c) × (c ≤ hd.used)
stands_after c hd e =
    let f = both_true (leb 2 c) (leb c hd.used) e in
    (leb-true 2 c f.0, leb-true c hd.used f.1)

module _ (hd : Header) (body : List ℕ) (some : 1 ≤ hd.used) (most : hd.used ≤ limit) (few : hd.live < hd.used) (whole : length body ≡ body_bytes) where
  abbrev state : Phase → Stream
  state p = record { header = hd; phase = p; body = body }

  -- on the tables for j
  module _ (j : ℕ) where
    abbrev lj : List ℕ
    lj = links_to hd.used j

    abbrev on : Phase → Run
    on p = record { links = lj; rows = rows_of hd.used; stream = state p }

    abbrev Declines : Type 0
    Declines = (row : List ℕ) → left (insert_rule lj (rows_of hd.used) hd row) ≡ record { links = lj; rows = rows_of hd.used; header = hd }

    left_on : (p : Phase) → (shape_number lj (rows_of hd.used) hd ≡ 0 → Declines → Leads (on Phase.Between) (way_in p body) (on p)) →
        LeftBy (state p) (bytes_to (state p))
    left_on p way =
        let z = shape_to hd j some most few in
        let d = declines_to hd j some most few in
        record { links = lj; rows = rows_of hd.used; leads = from_start lj (rows_of hd.used) hd z d body whole (way_in p body) (on p) (way z d) }

  left_in : (p : Phase) → possible_in p hd ≡ true → LeftBy (state p) (bytes_to (state p))
  left_in Phase.Between e = left_on 0 Phase.Between (λ _ _. ([], none))
  left_in (Phase.Gathering k got) e = left_on 0 (Phase.Gathering k got) (λ z d. gathering_from _ _ hd z d k got body whole (ltb-true _ _ e))
  left_in (Phase.Walking zero) e = absurd (omega (arith, (stands_after 0 hd e).0))
  left_in (Phase.Walking (suc zero)) e = absurd (omega (arith, (stands_after 1 hd e).0))
  left_in (Phase.Walking (suc (suc j))) e =
      let below = (stands_after (suc (suc j)) hd e).1 in
      let shows = rw (add-one (suc j)) at (first_shows hd j some most few (omega arith)) in
      left_on j (Phase.Walking (suc (suc j)))
      (λ z d. walking_from _ _ hd z d body (key_at (links_to hd.used j) hd.used (suc j)) (suc (suc j)) shows)
  left_in Phase.Ended e = left_on 0 Phase.Ended (λ z d. ended_from _ _ hd z d body)

-- every state that passes the test is left by bytes
pub possible_left : (x : Stream) → Sized x → possible x ≡ true → LeftBy x (bytes_to x)
unfolding possible
possible_left x z e = left_in x.header x.body z.some z.most z.few z.body x.phase e

-- and so every state that some feed takes, on whatever tables
pub taken_left : (l r : List ℕ) (x : Stream) (room : ℕ) → feed_number l r x room ≡ 0 → length x.body ≡ body_bytes → LeftBy x (bytes_to x)
unfolding feed_number
taken_left l r x room e whole =
    let f = passed _ _ _ (omega arith) e in
    let s = shaped l r x.header (passed _ _ _ (omega arith) f.0).0 in
    possible_left x (record { some = s.some; most = omega (arith, s.within, s.lent.most); few = s.few; body = whole }) (not-false _ f.1)

-- and every state that is left by bytes passes it
pub left_possible : (x : Stream) (bytes : List ℕ) → LeftBy x bytes → possible x ≡ true
unfolding possible
left_possible x bytes f = pieces_possible f.leads.1 refl

-- all of them are bytes
abbrev pub Bytes : List ℕ → Type 0
Bytes [] = Unit {0}
Bytes (b ∷ bs) = (b < 256) × Bytes bs

both_bytes : (bs cs : List ℕ) → Bytes bs → Bytes cs → Bytes (bs ++ cs)
both_bytes [] cs p q = q
both_bytes (b ∷ bs) cs p q = (p.0, both_bytes bs cs p.1 q)

first_bytes : (n : ℕ) (bs : List ℕ) → Bytes bs → Bytes (take n bs)
first_bytes zero bs p = tt
first_bytes (suc n) [] p = tt
first_bytes (suc n) (b ∷ bs) p = (p.0, first_bytes n bs p.1)

kind_byte_lem : (k : Command) → kind_byte k < 256
kind_byte_lem Command.Insert = omega arith
kind_byte_lem Command.Remove = omega arith
kind_byte_lem Command.Look = omega arith
kind_byte_lem Command.Clear = omega arith
kind_byte_lem Command.Walk = omega arith
kind_byte_lem Command.Unknown = omega arith

way_bytes : (p : Phase) (body : List ℕ) → Bytes body → Bytes (way_in p body)
way_bytes Phase.Between body h = tt
way_bytes (Phase.Gathering k got) body h = (kind_byte_lem k, first_bytes got body h)
way_bytes (Phase.Walking c) body h = (omega arith, tt)
way_bytes Phase.Ended body h = (omega arith, tt)

-- what leads to a state whose body has bytes are bytes
pub bytes_to_lem : (x : Stream) → Bytes x.body → Bytes (bytes_to x)
bytes_to_lem x h = (omega arith, both_bytes x.body (way_in x.phase x.body) h (way_bytes x.phase x.body h))
