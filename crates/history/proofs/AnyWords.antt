-- Demand 1, call by call, on any words: a refusal has a number that is given by its call, zeros for all else that it could tell, and leaves
-- the table as it was; an answer that is no refusal has number 0. Assumes nothing.
use Prim.Native.Nat.{ℕ, zero, suc, ◌+◌}
use mathlib.Core.List.{List, []}
use mathlib.Core.Bool.{Bool, true}
use mathlib.Core.Path.{◌≡◌, refl, sym, ap, ◌∙◌}
use native.Mathlib.Decide.{ℕ_discrete}
use lib.Dec.{leb, eqb}
use borrow.Author.Tests.{ne_eqb, eqb-true, eqb-false}
use Rattle.rules.specs.Choice.{both}
use Rattle.rules.specs.Words.{zero_row, other_end_at, occupied_at}
use Rattle.rules.specs.Values.{Kind, gives, ends, refuses, Values, Outcome, plain, done, refused, answer_unless, of_number, unless}
use Rattle.rules.specs.Refusals.{damaged}
use Rattle.rules.specs.Given.{one_of, Only}
use Rattle.rules.specs.Start.{start_rule, room_rule}
use Rattle.rules.specs.Access.{key_number, replace_rule}
use Rattle.rules.specs.Insert.{insert_step, take_new, take_slot, insert_by, insert_rule}
use Rattle.rules.specs.Remove.{remove_step, remove_by, remove_slot, remove_at, remove_rule}
use Rattle.rules.specs.Hop.{hop_number, hop_answer, hop_from, hop_rule}
use Rattle.rules.specs.Drain.{drain_rule}
use Rattle.rules.specs.Check.{check_rule}
use Rattle.rules.specs.Clear.{clear_rule}
use Rattle.rules.specs.Retain.{remove_if, remove_chosen, struck_by, retain_rule}
use Rattle.rules.specs.Rebuild.{rebuild_rule}
use Rattle.rules.specs.declared.Key.{Key}
use Rattle.rules.specs.declared.steps.InsertLinks.{InsertLinks}
use Rattle.rules.proofs.Choice.{by_pick}
use Rattle.rules.proofs.Access.{missed}
use Rattle.rules.proofs.Given
use Rattle.runs.proofs.Chosen.{clear_ends}
use Rattle.history.specs.Calls.{Row, Beginning, start, rebuild, Question, number, look, hop, check, room, Call, begin, ask, insert, remove, write, replace, drain, clear, retain}
use Rattle.history.specs.Histories.{Table, left, outcome, Refused}
use Rattle.history.specs.Refusals.{key_numbers, given_by, no_row}
use Rattle.history.proofs.Parts.{written_none}

module _ (t : Table) where
  -- what is said of a refusal, and of any outcome: the numbers that may be given, and what stands for a row
  pub record Down (ks row : List ℕ) (o : Outcome) : Type 0 where
    pub numbered : one_of ks o.answer.number ≡ true
    pub unchanged : left o ≡ t
    pub zeros : o.answer ≡ refused o.answer.number
    pub row_zeroed : o.row ≡ row

  pub record Told (ks row : List ℕ) (o : Outcome) : Type 0 where
    pub works : (Refused o → ⊥) → o.answer.number ≡ 0
    pub down : Refused o → Down ks row o

  -- an answer that gives something, or that is done
  given_told : (ks row : List ℕ) (o : Outcome) → o.answer.kind ≡ gives → o.answer.number ≡ 0 → Told ks row o
  given_told ks row o e n = record { works = λ _. n; down = λ r. absurd (eqb-false 0 1 refl (cc)) }

  done_told : (ks row : List ℕ) (o : Outcome) → o.answer ≡ done → Told ks row o
  done_told ks row o e =
      let k = ap (λ (v : Values). v.kind) e in
      record { works = λ _. ap (λ (v : Values). v.number) e; down = λ r. absurd (eqb-false 0 1 refl (cc)) }

  -- behind a number
  unless_told : (ks : List ℕ) (n : ℕ) (o : Outcome) → Only ks n → (n ≡ 0 → Told ks zero_row o) →
      Told ks zero_row (unless t.links t.rows t.header n o)
  unfolding unless
  unless_told ks n o h j =
      by_pick (Told ks zero_row) (eqb n 0) o _ (λ e. j (eqb-true n 0 e))
      (λ e. record {
        works = λ k. absurd (k refl);
        down = λ _. record { numbered = Given.listed ks n h e; unchanged = refl; zeros = refl; row_zeroed = refl };
      })

  answer_told : (ks : List ℕ) (n : ℕ) (v : Values) → Only ks n → Told ks zero_row (plain v t.header t.links t.rows) →
      Told ks zero_row (plain (answer_unless n v) t.header t.links t.rows)
  answer_told ks n v h j =
      by_pick (λ (a : Values). Told ks zero_row (plain a t.header t.links t.rows)) (eqb n 0) v _ (λ _. j)
      (λ e. record {
        works = λ k. absurd (k refl);
        down = λ _. record { numbered = Given.listed ks n h e; unchanged = refl; zeros = refl; row_zeroed = refl };
      })

  -- a key's number beside a part
  key_numbers_lem : (k : Key) → Only key_numbers (key_number t.links t.rows t.header k)
  key_numbers_lem k = search Given.key_chain

  part_told : (k : Key) (o : Outcome) → o.answer ≡ of_number (key_number t.links t.rows t.header k) →
      ((key_number t.links t.rows t.header k ≡ 0 → ⊥) → (left o ≡ t) × (o.row ≡ [])) → Told key_numbers [] o
  part_told k o a h = go (ℕ_discrete (key_number t.links t.rows t.header k) 0)
    where
      go : Dec (key_number t.links t.rows t.header k ≡ 0) → Told key_numbers [] o
      go (yes z) = done_told key_numbers [] o (a ∙ ap of_number z)
      go (no n) =
          let e = ne_eqb (key_number t.links t.rows t.header k) 0 n in
          let r : o.answer ≡ refused (key_number t.links t.rows t.header k) = a ∙ simp e in
          let m : o.answer.number ≡ key_number t.links t.rows t.header k = ap (λ (v : Values). v.number) r in
          record {
            works = λ q. absurd (q (ap (λ (v : Values). v.kind) r));
            down = λ _. record {
              numbered = rw m (Given.listed key_numbers _ (key_numbers_lem k) e);
              unchanged = (h n).0;
              zeros = r ∙ ap refused (sym m);
              row_zeroed = (h n).1;
            };
          }

  -- the removal of a slot, behind other tests too
  slot_told : (ks : List ℕ) (k : Key) → Only ks damaged → Told ks zero_row (remove_slot t.links t.rows t.header k)
  unfolding remove_slot remove_by remove_step
  slot_told ks k d = unless_told ks _ _ (Given.remove_chain ks t.links t.rows t.header _ d) (λ _. given_told ks zero_row _ refl refl)

  -- a count, and one more removal that only counts
  record Counts (o : Outcome) : Type 0 where
    kind : o.answer.kind ≡ gives
    number : o.answer.number ≡ 0

  counts_on : (chosen : ℕ → Bool) (i : ℕ) (o : Outcome) → Counts o → Counts (remove_if chosen i o)
  unfolding remove_if
  counts_on chosen i o c = by_pick Counts (both (occupied_at o.links o.header.used i) (chosen i)) _ o (λ _. record { kind = refl; number = refl }) (λ _. c)

  chosen_counts : (chosen : ℕ → Bool) (n : ℕ) (o : Outcome) → Counts o → Counts (remove_chosen chosen n o)
  unfolding remove_chosen
  chosen_counts chosen zero o c = c
  chosen_counts chosen (suc n) o c = counts_on chosen n (remove_chosen chosen n o) (chosen_counts chosen n o c)

  begin_told : (b : Beginning) → Told (given_by (begin b)) zero_row (outcome t (begin b))
  unfolding start_rule rebuild_rule
  begin_told start = unless_told _ _ _ (search Given.lent_chain) (λ _. done_told _ _ _ refl)
  begin_told (rebuild bytes) = unless_told _ _ _ (search Given.rebuild_chain) (λ _. done_told _ _ _ refl)

  -- the hop step past its tests of shape and slot 0
  abbrev Hops : ℕ → Values → Type 0
  Hops c v = Told (given_by (ask (hop c))) zero_row (plain v t.header t.links t.rows)

  hop_told : (c back : ℕ) → Hops c (hop_answer t.links t.header c back)
  unfolding hop_answer
  hop_told c back =
      by_pick (Hops c) (leb t.header.used c) done _ (λ _. done_told _ _ _ refl)
      (λ _. by_pick (Hops c) (occupied_at t.links t.header.used c) _ _ (λ _. given_told _ _ _ refl refl)
      (λ _. by_pick (Hops c) (eqb (back + 1) t.header.used) done _ (λ _. done_told _ _ _ refl) (λ _. given_told _ _ _ refl refl)))

  ask_told : (q : Question) → Told (given_by (ask q)) (no_row (ask q)) (outcome t (ask q))
  unfolding hop_rule hop_from check_rule room_rule
  ask_told (number k) = answer_told _ _ _ (key_numbers_lem k) (done_told _ _ _ refl)
  ask_told (look k) = part_told k _ refl (λ n. (refl, (missed t.links t.rows t.header k n).1))
  ask_told (hop c) =
      let back = other_end_at t.links t.header.used c in
      unless_told _ _ _ (search Given.entry_chain)
      (λ _. answer_told _ (hop_number t.links t.header c back) (hop_answer t.links t.header c back) (search Given.hop_chain) (hop_told c back))
  ask_told check = unless_told _ _ _ (search (Given.sound_chain, Given.entry_chain)) (λ _. done_told _ _ _ refl)
  ask_told room = unless_told _ _ _ (search Given.entry_chain) (λ _. given_told _ _ _ refl refl)

  take_told : (ks side : List ℕ) (x : InsertLinks) → Told ks zero_row (insert_step t.links t.rows t.header side x)
  unfolding insert_step take_new take_slot
  take_told ks side x =
      by_pick (Told ks zero_row) (eqb x.b 0) _ _ (λ _. given_told ks zero_row _ refl refl) (λ _. given_told ks zero_row _ refl refl)

  insert_told : (side : List ℕ) → Told (given_by (insert side)) zero_row (outcome t (insert side))
  unfolding insert_rule insert_by
  insert_told side = unless_told _ _ _ (search Given.insert_chain) (λ _. take_told _ side _)

  remove_told : (k : Key) → Told (given_by (remove k)) zero_row (outcome t (remove k))
  unfolding remove_rule
  remove_told k = unless_told _ _ _ (key_numbers_lem k) (λ _. slot_told _ k (record { listed = refl }))

  write_told : (k : Key) (row : Row) → Told (given_by (write k row)) [] (outcome t (write k row))
  write_told k row =
      part_told k _ refl
      (λ n. (
        ap (λ (r : List ℕ). record { links = t.links; rows = r; header = t.header }) (written_none t.links t.rows t.header k row n),
        (missed t.links t.rows t.header k n).1,
      ))

  replace_told : (k : Key) (side : List ℕ) → Told (given_by (replace k side)) zero_row (outcome t (replace k side))
  unfolding replace_rule
  replace_told k side = unless_told _ _ _ (search Given.replace_chain) (λ _. done_told _ _ _ refl)

  drain_told : Told (given_by drain) zero_row (outcome t drain)
  unfolding drain_rule remove_at
  drain_told =
      unless_told _ _ _ (search Given.entry_chain)
      (λ _. by_pick (Told (given_by drain) zero_row) (eqb t.header.live 0) (plain done t.header t.links t.rows) _ (λ _. done_told _ _ _ refl)
      (λ _. unless_told _ _ _ (search Given.slot_chain) (λ _. slot_told _ _ (record { listed = refl }))))

  -- past its check clear comes to its end
  clear_told : Told (given_by clear) zero_row (outcome t clear)
  unfolding clear_rule
  clear_told =
      unless_told _ _ _ (search (Given.sound_chain, Given.entry_chain)) (λ e. done_told _ _ _ (clear_ends t.links t.rows t.header e).0)

  retain_told : (bytes : List ℕ) → Told (given_by (retain bytes)) zero_row (outcome t (retain bytes))
  unfolding retain_rule
  retain_told bytes =
      unless_told _ _ _ (search Given.retain_chain)
      (λ _. let c = chosen_counts (struck_by bytes) t.header.used _ (record { kind = refl; number = refl }) in given_told _ _ _ c.kind c.number)

  -- any call
  pub told : (c : Call) → Told (given_by c) (no_row c) (outcome t c)
  told (begin b) = begin_told b
  told (ask q) = ask_told q
  told (insert side) = insert_told side
  told (remove k) = remove_told k
  told (write k row) = write_told k row
  told (replace k side) = replace_told k side
  told drain = drain_told
  told clear = clear_told
  told (retain bytes) = retain_told bytes

  -- so a number that is not 0 is a refusal's; and no other number than these is given
  by_kind : (P : Kind → Type 0) → P gives → P ends → P refuses → (k : Kind) → P k
  by_kind P a b c gives = a
  by_kind P a b c ends = b
  by_kind P a b c refuses = c

  pub number_refuses : (c : Call) → ((outcome t c).answer.number ≡ 0 → ⊥) → (outcome t c).answer ≡ refused (outcome t c).answer.number
  number_refuses c n =
      by_kind (λ (k : Kind). (outcome t c).answer.kind ≡ k → (outcome t c).answer ≡ refused (outcome t c).answer.number)
      (λ e. absurd (n ((told c).works (λ r. eqb-false 0 1 refl (cc))))) (λ e. absurd (n ((told c).works (λ r. eqb-false 0 1 refl (cc)))))
      (λ e. ((told c).down e).zeros) (outcome t c).answer.kind refl

  pub number_given : (c : Call) → Only (given_by c) (outcome t c).answer.number
  number_given c = go (ℕ_discrete (outcome t c).answer.number 0)
    where
      go : Dec ((outcome t c).answer.number ≡ 0) → Only (given_by c) (outcome t c).answer.number
      go (yes z) = rw z (record { listed = refl })
      go (no n) =
          let r = ap (λ (v : Values). v.kind) (number_refuses c n) in
          record { listed = simp (ne_eqb _ 0 n) ((told c).down r).numbered }
