-- No two different outcomes meet one promise. A promise is one equation of the whole outcome, and an outcome's values are
-- those of no other answer. One law, and a line for each struct that a call hands back. Side buffers are lent by `&`, and so
-- stay as they were: no promise needs to say it. Assumes nothing.
use Prim.Native.Nat.{ℕ}
use mathlib.Core.List.{List}
use mathlib.Core.Path.{◌≡◌, refl, sym, ap, ◌∙◌}
use denote.Ref.{Bor}
use Rattle.std.specs.Prelude.{Result, Ok, Err, ⊤}
use lib.Dec.{eqb}
use Rattle.rules.specs.Choice.{pick}
use Rattle.rules.specs.Values.{Kind, gives, ends, refuses, Values, zero_key, keyed, counted, done, answered, found_by_hop, found_by_drain, of_key, of_hop, of_drain, of_done, of_count, Outcome, handed, handed_row}
use Rattle.rules.specs.Refusals.{number_of, number_in}
use Rattle.rules.specs.Start.{start_rule, room_rule}
use Rattle.rules.specs.Access.{key_number, replace_rule, look_row_rule, RowPart}
use Rattle.rules.specs.Insert.{insert_rule}
use Rattle.rules.specs.Remove.{remove_at, remove_rule}
use Rattle.rules.specs.Hop.{hop_from, hop_rule}
use Rattle.rules.specs.Drain.{drain_rule}
use Rattle.rules.specs.Check.{sound_number, check_rule}
use Rattle.rules.specs.Clear.{clear_rule}
use Rattle.rules.specs.Retain.{retain_rule}
use Rattle.rules.specs.Rebuild.{Relinked, relinked, cleared_rows, rebuild_rule}
use Rattle.rules.specs.declared.Header.{Header}
use Rattle.rules.specs.declared.Key.{Key}
use Rattle.rules.specs.declared.Refusal.{Refusal}
use Rattle.rules.specs.declared.HopAnswer.{HopAnswer}
use Rattle.rules.specs.declared.DrainAnswer.{DrainAnswer}
use Rattle.rules.specs.declared.Handed.{Handed}
use Rattle.rules.specs.declared.HandedRow.{HandedRow}

-- a struct can be read back from the outcome that it stands for beside the tables
pub record Readable (A : Type 0) (view : A → List ℕ → List ℕ → Outcome) : Type 0 where
  pub unview : Outcome → A
  pub back : (x : A) (l r : List ℕ) → unview (view x l r) ≡ x
  pub links : (x : A) (l r : List ℕ) → (view x l r).links ≡ l
  pub rows : (x : A) (l r : List ℕ) → (view x l r).rows ≡ r

-- what is handed back and both tables at exit are settled by the outcome
abbrev pub OneOutcome : {A : Type 0} → (A → List ℕ → List ℕ → Outcome) → Outcome → Type 0
OneOutcome {A} view o =
    (x y : A) (l m r s : List ℕ) → view x l r ≡ o → view y m s ≡ o → (x ≡ y) × (l ≡ m) × (r ≡ s)

pub settled : {A : Type 0} (view : A → List ℕ → List ℕ → Outcome) → Readable A view → (o : Outcome) → OneOutcome view o
settled view v o x y l m r s p q =
    let e = p ∙ sym q in (
      sym (v.back x l r) ∙ ap v.unview e ∙ v.back y m s,
      sym (v.links x l r) ∙ ap (λ (w : Outcome). w.links) e ∙ v.links y m s,
      sym (v.rows x l r) ∙ ap (λ (w : Outcome). w.rows) e ∙ v.rows y m s,
    )

-- the refusal of a number, which tells it
abbrev pub refusal_of : ℕ → Refusal
refusal_of n =
    pick (eqb n 1) Refusal.Shape
    (pick (eqb n 2) Refusal.Damaged
    (pick (eqb n 3) Refusal.EvenVersion
    (pick (eqb n 4) Refusal.NotLive
    (pick (eqb n 5) Refusal.Full
    (pick (eqb n 6) Refusal.StaleCursor
    (pick (eqb n 7) Refusal.WrongPresence
    (pick (eqb n 8) Refusal.ZeroOccupied Refusal.BrokenStream)))))))

pub refusal_back : (e : Refusal) → refusal_of (number_of e) ≡ e
refusal_back Refusal.Shape = refl
refusal_back Refusal.Damaged = refl
refusal_back Refusal.EvenVersion = refl
refusal_back Refusal.NotLive = refl
refusal_back Refusal.Full = refl
refusal_back Refusal.StaleCursor = refl
refusal_back Refusal.WrongPresence = refl
refusal_back Refusal.ZeroOccupied = refl
refusal_back Refusal.BrokenStream = refl

-- one of three, by the kind
abbrev among : {A : Type 0} → Kind → A → A → A → A
among gives a b c = a
among ends a b c = b
among refuses a b c = c

-- the answer that the values are of: what was given, what the end says, or the refusal
abbrev read : {A : Type 0} → (Values → A) → A → Values → Result A Refusal
read given ended v = among v.kind (Ok (given v)) (Ok ended) (Err (refusal_of v.number))

-- values that tell their answer
abbrev Told : {A : Type 0} → (Result A Refusal → Values) → Type 0
Told {A} of = (un : Values → Result A Refusal) × ((a : Result A Refusal) → un (of a) ≡ a)

module _ {A : Type 0} (give : A → Values) (given : Values → A) (ended : A) (back : (x : A) → read given ended (give x) ≡ Ok x) where
  told_back : (a : Result A Refusal) → read given ended (answered give a) ≡ a
  told_back (Ok x) = back x
  told_back (Err e) = ap (λ (x : Refusal). Err x) (refusal_back e)

  told : Told (answered give)
  told = (read given ended, told_back)

hop_back : (x : HopAnswer) → read (λ v. HopAnswer.Visited v.key v.cursor) HopAnswer.Done (found_by_hop x) ≡ Ok x
hop_back (HopAnswer.Visited k c) = refl
hop_back HopAnswer.Done = refl

drain_back : (x : DrainAnswer) → read (λ v. DrainAnswer.Keyed v.key) DrainAnswer.Done (found_by_drain x) ≡ Ok x
drain_back (DrainAnswer.Keyed k) = refl
drain_back DrainAnswer.Done = refl

key_told : Told of_key
key_told = told keyed (λ v. v.key) zero_key (λ _. refl)

count_told : Told of_count
count_told = told counted (λ v. v.count) 0 (λ _. refl)

hop_told : Told of_hop
hop_told = told found_by_hop (λ v. HopAnswer.Visited v.key v.cursor) HopAnswer.Done hop_back

drain_told : Told of_drain
drain_told = told found_by_drain (λ v. DrainAnswer.Keyed v.key) DrainAnswer.Done drain_back

done_told : Told of_done
done_told = told (λ _. done) (λ _. tt) tt (λ _. refl)

abbrev pub tests_of : ℕ → Result ⊤ Refusal
tests_of n = pick (eqb n 0) (Ok tt) (Err (refusal_of n))

pub tests_back : (x : Result ⊤ Refusal) → tests_of (number_in x) ≡ x
tests_back (Ok x) = refl
tests_back (Err Refusal.Shape) = refl
tests_back (Err Refusal.Damaged) = refl
tests_back (Err Refusal.EvenVersion) = refl
tests_back (Err Refusal.NotLive) = refl
tests_back (Err Refusal.Full) = refl
tests_back (Err Refusal.StaleCursor) = refl
tests_back (Err Refusal.WrongPresence) = refl
tests_back (Err Refusal.ZeroOccupied) = refl
tests_back (Err Refusal.BrokenStream) = refl

-- what a call hands back, and with a row
module _ {A : Type 0} (of : Result A Refusal → Values) (t : Told of) where
  pub handed_readable : Readable (Handed A) (handed of)
  handed_readable =
      record {
        unview = λ o. record { answer = t.0 o.answer; header = o.header };
        back = λ x l r. ap (λ (a : Result A Refusal). record { answer = a; header = x.header }) (t.1 x.answer);
        links = λ x l r. refl;
        rows = λ x l r. refl;
      }

  pub handed_row_readable : Readable (HandedRow A) (handed_row of)
  handed_row_readable =
      record {
        unview = λ o. record { answer = t.0 o.answer; row = o.row; header = o.header };
        back = λ x l r. ap (λ (a : Result A Refusal). record { answer = a; row = x.row; header = x.header }) (t.1 x.answer);
        links = λ x l r. refl;
        rows = λ x l r. refl;
      }

-- call by call
pub start_settled : (l r : List ℕ) (hd : Header) → OneOutcome (handed of_done) (start_rule l r hd)
start_settled l r hd = settled (handed of_done) (handed_readable of_done done_told) (start_rule l r hd)

pub room_settled : (l r : List ℕ) (hd : Header) → OneOutcome (handed of_count) (room_rule l r hd)
room_settled l r hd = settled (handed of_count) (handed_readable of_count count_told) (room_rule l r hd)

pub replace_settled : (l r : List ℕ) (hd : Header) (k : Key) (side : List ℕ) → OneOutcome (handed of_done) (replace_rule l r hd k side)
replace_settled l r hd k side = settled (handed of_done) (handed_readable of_done done_told) (replace_rule l r hd k side)

pub insert_settled : (l r : List ℕ) (hd : Header) (side : List ℕ) → OneOutcome (handed of_key) (insert_rule l r hd side)
insert_settled l r hd side = settled (handed of_key) (handed_readable of_key key_told) (insert_rule l r hd side)

pub remove_settled : (l r : List ℕ) (hd : Header) (k : Key) → OneOutcome (handed_row of_key) (remove_rule l r hd k)
remove_settled l r hd k = settled (handed_row of_key) (handed_row_readable of_key key_told) (remove_rule l r hd k)

pub hop_settled : (l r : List ℕ) (hd : Header) (c : ℕ) → OneOutcome (handed of_hop) (hop_rule l r hd c)
hop_settled l r hd c = settled (handed of_hop) (handed_readable of_hop hop_told) (hop_rule l r hd c)

pub drain_settled : (l r : List ℕ) (hd : Header) → OneOutcome (handed_row of_drain) (drain_rule l r hd)
drain_settled l r hd = settled (handed_row of_drain) (handed_row_readable of_drain drain_told) (drain_rule l r hd)

pub check_settled : (l r : List ℕ) (hd : Header) → OneOutcome (handed of_done) (check_rule l r hd)
check_settled l r hd = settled (handed of_done) (handed_readable of_done done_told) (check_rule l r hd)

pub clear_settled : (l r : List ℕ) (hd : Header) → OneOutcome (handed of_done) (clear_rule l r hd)
clear_settled l r hd = settled (handed of_done) (handed_readable of_done done_told) (clear_rule l r hd)

pub retain_settled : (l r : List ℕ) (hd : Header) (bytes : List ℕ) → OneOutcome (handed of_count) (retain_rule l r hd bytes)
retain_settled l r hd bytes = settled (handed of_count) (handed_readable of_count count_told) (retain_rule l r hd bytes)

pub rebuild_settled : (l r : List ℕ) (hd : Header) (bytes : List ℕ) → OneOutcome (handed of_done) (rebuild_rule l r hd bytes)
rebuild_settled l r hd bytes = settled (handed of_done) (handed_readable of_done done_told) (rebuild_rule l r hd bytes)

pub key_number_settled : (l r : List ℕ) (hd : Header) (k : Key) (m n : ℕ) → m ≡ key_number l r hd k → n ≡ key_number l r hd k → m ≡ n
key_number_settled l r hd k m n p q = p ∙ sym q

-- a look: the words of the part and where it lies in the rows that were lent
pub look_settled : (l : List ℕ) (r : Bor (List ℕ)) (hd : Header) (k : Key) (x y : Bor (List ℕ)) →
    RowPart l r hd k x → RowPart l r hd k y → (x.now ≡ y.now) × (x.ref_ptr ≡ y.ref_ptr)
look_settled l r hd k x y p q = (p.words ∙ sym q.words, p.place ∙ sym q.place)

-- and of the parts of calls that are public in their crates
pub remove_at_settled : (l r : List ℕ) (hd : Header) (q : ℕ) → OneOutcome (handed_row of_key) (remove_at l r hd q)
remove_at_settled l r hd q = settled (handed_row of_key) (handed_row_readable of_key key_told) (remove_at l r hd q)

pub look_row_settled : (l r : List ℕ) (hd : Header) (k : Key) → OneOutcome (handed_row of_key) (look_row_rule l r hd k)
look_row_settled l r hd k = settled (handed_row of_key) (handed_row_readable of_key key_told) (look_row_rule l r hd k)

pub hop_from_settled : (l : List ℕ) (hd : Header) (c : ℕ) (x y : Result HopAnswer Refusal) → of_hop x ≡ hop_from l hd c → of_hop y ≡ hop_from l hd c → x ≡ y
hop_from_settled l hd c x y p q = sym (hop_told.1 x) ∙ ap hop_told.0 (p ∙ sym q) ∙ hop_told.1 y

pub sound_number_settled : (k : ℕ) (l : List ℕ) (hd : Header) (m n : ℕ) → m ≡ sound_number k l hd → n ≡ sound_number k l hd → m ≡ n
sound_number_settled k l hd m n p q = p ∙ sym q

-- what tests come to: the refusal of a number is one, and none passes
pub checked_settled : (m : ℕ) (x y : Result ⊤ Refusal) → number_in x ≡ m → number_in y ≡ m → x ≡ y
checked_settled m x y p q = sym (tests_back x) ∙ ap tests_of (p ∙ sym q) ∙ tests_back y

-- relinking: the header that is handed back and the links at exit
pub relink_settled : (l : List ℕ) (n : ℕ) (x y : Header) (m k : List ℕ) →
    record { links = m; header = x } ≡ relinked l n → record { links = k; header = y } ≡ relinked l n → (x ≡ y) × (m ≡ k)
relink_settled l n x y m k p q =
    let e = p ∙ sym q in
    (ap (λ (w : Relinked). w.header) e, ap (λ (w : Relinked). w.links) e)

pub clear_rows_settled : (l : List ℕ) (n k : ℕ) (r x y : List ℕ) → x ≡ cleared_rows l n k r → y ≡ cleared_rows l n k r → x ≡ y
clear_rows_settled l n k r x y p q = p ∙ sym q
