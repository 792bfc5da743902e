-- The law of pieces: however the input is cut, and however small the outputs are, the bytes taken lead to the same replies and the same run
-- as they do in one course. And where a feed stops. Assumes nothing.
use Prim.Native.Nat.{ℕ}
use mathlib.Core.List.{List, [], ◌++◌, append-nil, append_assoc}
use mathlib.Core.Bool.{false}
use mathlib.Core.Path.{◌≡◌, refl, sym, ap, ◌∙◌}
use Rattle.commands.specs.Turns.{Run}
use Rattle.hearing.specs.Heard.{walks_in}
use Rattle.stream.specs.Feeding.{feed_rule}
use Rattle.course.specs.Course.{Course, preceded, course}
use Rattle.course.specs.Pieces.{taken_of, written_of, Pieces, none, more}
use Rattle.course.proofs.Walks.{walked_out_still}
use Rattle.course.proofs.Courses.{before_before}
use Rattle.course.proofs.FedTurns.{whole_fed, unrefused}

-- one piece: what it took leads to what it wrote and to its run, whatever comes after
pub fed_piece : (s : Run) (input out : List ℕ) → let p = feed_rule s input out in p.number ≡ 0 → (rest : List ℕ) →
    course s (taken_of input p ++ rest) ≡ preceded (written_of p) (course p.run rest)
fed_piece s input out e rest = rw (unrefused s input out e).1 ((whole_fed s input out).course_is rest)

-- piece after piece
pub pieces : {s s' : Run} {taken written : List ℕ} → Pieces s taken written s' → (rest : List ℕ) →
    course s (taken ++ rest) ≡ preceded written (course s' rest)
pieces none rest = refl
pieces {s} {s'} (more {taken = taken} {written = written} input out e ps) rest =
    let p = feed_rule s input out in
    ap (course s) (append_assoc (taken_of input p) taken rest)
    ∙ fed_piece s input out e (taken ++ rest)
    ∙ ap (preceded (written_of p)) (pieces ps rest)
    ∙ before_before (written_of p) written (course s' rest)

-- the whole course of the bytes taken, where the last run does not walk
pub whole_course : {s s' : Run} {taken written : List ℕ} → Pieces s taken written s' → walks_in s'.stream.phase ≡ false →
    course s taken ≡ record { run = s'; said = written }
whole_course {s} {s'} {taken} {written} ps still =
    ap (course s) (sym (append-nil taken))
    ∙ pieces ps []
    ∙ ap (preceded written) (walked_out_still s' still)
    ∙ ap (λ (xs : List ℕ). record { run = s'; said = xs }) (append-nil written)

-- two ways of cutting the same bytes
pub however_cut : {s s₁ s₂ : Run} {xs o₁ o₂ : List ℕ} → Pieces s xs o₁ s₁ → Pieces s xs o₂ s₂ →
    walks_in s₁.stream.phase ≡ false → walks_in s₂.stream.phase ≡ false → (o₁ ≡ o₂) × (s₁ ≡ s₂)
however_cut ps qs h j =
    let e = sym (whole_course ps h) ∙ whole_course qs j in
    (ap (λ (x : Course). x.said) e, ap (λ (x : Course). x.run) e)
