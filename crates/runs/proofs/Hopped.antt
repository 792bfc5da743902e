-- The hop step on a sound table is the machine's. Assumes nothing.
use mathlib.Core.Path.{◌≡◌, refl, sym, ap, ◌∙◌}
use mathlib.Core.Logic.{◌≢◌}
use mathlib.Core.List.{List}
use mathlib.Core.Bool.{Bool, true, false}
use Prim.Native.Nat.{ℕ, ◌+◌, ◌≤◌, ◌<◌}
use native.Mathlib.Decide.{ℕ_discrete, dec_le}
use native.Mathlib.Omega.{arith}
use lib.Dec.{eqb}
use borrow.Author.Tests.{eq-eqb, ne_eqb, le-leb, lt-leb}
use Rattle.rules.specs.Choice.{pick}
use Rattle.rules.specs.Words.{version_at, other_end_at, vacant_at, occupied_at, vacant_by, occupied_by}
use Rattle.rules.specs.Values.{done, refused}
use Rattle.rules.specs.Refusals.{damaged}
use Rattle.rules.specs.Runs.{Front, Run, past_front}
use Rattle.rules.specs.Hop.{visit, hop_from, hop_rule}
use Rattle.rules.specs.declared.Header.{Header}
use Rattle.rules.proofs.Choice.{by_test}
use Rattle.rules.proofs.HopSteps.{at_end, at_occupied, inside_run, over_run}
use Rattle.rules.proofs.SlotTests.{vacant_yes, occupied_yes, occupied_not, occupied_no}
use Rattle.runs.specs.Machine.{Machine, machine_of, back_of}
use Rattle.runs.specs.Steps.{hop_answer_on, hop_on}
use Rattle.runs.specs.Tables.{Shows, Does}
use Rattle.runs.proofs.Runs.{after_run}
use Rattle.runs.proofs.RunTests.{front_by}
use Rattle.runs.proofs.Backs.{run_from}
use Rattle.runs.proofs.Sound.{LinkedTable, linked}
use Rattle.runs.proofs.Shown.{entry_passes, unless_does}

module _ (l r : List ℕ) (hd : Header) (after : List ℕ) (L : LinkedTable l hd.used after) (c : ℕ) where
  abbrev v : ℕ → ℕ
  v = version_at l hd.used

  abbrev m : Machine
  m = machine_of l r hd after

  abbrev back : ℕ
  back = back_of v hd.used c

  -- from the front of a run to the slot after its back
  over : Front v hd.used c → past_front v hd.used c ≡ false → hop_from l hd c ≡ hop_answer_on m c
  unfolding hop_answer_on vacant_at occupied_at
  over f p =
      sym (over_run l hd c back back_is (vacant_yes v hd.used c f.below f.vacant) p back_vacant run.ordered)
      ∙ same (ℕ_discrete (back + 1) hd.used)
    where
      run : Run v hd.used c back
      run = run_from v hd.used c f

      back_is : back ≡ other_end_at l hd.used c
      back_is = sym (L.ends c back run).0

      back_vacant : vacant_by v hd.used back ≡ true
      back_vacant = vacant_yes v hd.used back run.below (run.vacant back run.ordered (omega arith))

      next_occupied : back + 1 ≢ hd.used → occupied_by v hd.used (back + 1) ≡ true
      next_occupied n =
          let h : back + 1 < hd.used = omega (arith, run.below, n) in
          occupied_yes v hd.used (back + 1) h (after_run v hd.used c back run h)

      same : Dec (back + 1 ≡ hd.used) →
          pick (eqb (back + 1) hd.used) done (pick (occupied_by v hd.used (back + 1)) (visit l hd.used (back + 1)) (refused damaged)) ≡ hop_answer_on m c
      same (yes e) = simp (eq-eqb (back + 1) hd.used e, lt-leb hd.used c f.below, occupied_no v hd.used c (λ _. f.vacant), p)
      same (no n) =
          simp (ne_eqb (back + 1) hd.used n, lt-leb hd.used c f.below, occupied_no v hd.used c (λ _. f.vacant), p, next_occupied n)

  pub hop_is : hop_from l hd c ≡ hop_answer_on m c
  unfolding hop_answer_on vacant_at occupied_at
  hop_is = past (dec_le hd.used c)
    where
      inside : c < hd.used → occupied_by v hd.used c ≡ false → hop_from l hd c ≡ hop_answer_on m c
      inside h o =
          let e = occupied_not v hd.used c o h in
          let w = vacant_yes v hd.used c h e in
          by_test (λ (t : Bool). past_front v hd.used c ≡ t → hop_from l hd c ≡ hop_answer_on m c) (past_front v hd.used c)
          (λ p _. sym (inside_run l hd c p) ∙ simp (lt-leb hd.used c h, o, p))
          (λ p _. over (front_by v hd.used c w p) p) refl

      below : c < hd.used → hop_from l hd c ≡ hop_answer_on m c
      below h =
          by_test (λ (t : Bool). occupied_by v hd.used c ≡ t → hop_from l hd c ≡ hop_answer_on m c) (occupied_by v hd.used c)
          (λ o _. sym (at_occupied l hd c o) ∙ simp (lt-leb hd.used c h, o))
          (λ o _. inside h o) refl

      past : Dec (hd.used ≤ c) → hop_from l hd c ≡ hop_answer_on m c
      past (yes h) = sym (at_end l hd c h) ∙ simp (le-leb hd.used c h)
      past (no h) = below (omega arith)

pub hop_does : (l r : List ℕ) (hd : Header) (m : Machine) → Shows l r hd m → (c : ℕ) → Does (hop_rule l r hd c) (hop_on m c)
unfolding hop_rule
hop_does l r hd m s c =
    unless_does l r hd m s _ 0 (entry_passes l r hd s.shaped s.sound.zero_even.even) _ (hop_on m c)
    (λ _. record { answer = hop_is l r hd _ (linked l hd s.sound) c ∙ ap (λ (x : Machine). hop_answer_on x c) s.same; row = refl; shows = s })
