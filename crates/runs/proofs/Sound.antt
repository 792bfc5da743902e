-- A sound table, as the rules say it, is a linked table with its count; and the chain is unique. Assumes nothing.
use mathlib.Core.Path.{◌≡◌, refl, sym, ap, ◌∙◌, subst}
use mathlib.Core.List.{List, [], ◌∷◌}
use Prim.Native.Nat.{ℕ, ◌≤◌}
use native.Mathlib.Decide.{ℕ_discrete}
use native.Mathlib.Omega.{arith}
use Rattle.rules.specs.Choice.{times}
use Rattle.rules.specs.Words.{version_at, next_at, prev_at, other_end_at}
use Rattle.rules.specs.Runs.{odd_count}
use Rattle.rules.specs.Sound.{Follows, Sound}
use Rattle.rules.specs.declared.Header.{Header}
use Rattle.runs.proofs.Points.{alike_same, alike_other}
use Rattle.runs.proofs.Segments.{Seg, seg_unique}
use Rattle.runs.proofs.Fronts.{Fronts, fronts_once}
use Rattle.runs.proofs.Linked.{Linked}

-- the words of a table, as functions of the slot
abbrev pub LinkedTable : List ℕ → ℕ → List ℕ → Type 0
LinkedTable l used after = Linked (version_at l used) (next_at l used) (prev_at l used) (other_end_at l used) used after

module _ (l : List ℕ) (used : ℕ) where
  there_and_back : (a : ℕ) (after : List ℕ) (b : ℕ) → Follows l used a after b →
      ((i : ℕ) → 1 ≤ times i (a ∷ after) → prev_at l used (next_at l used i) ≡ i) → Seg (next_at l used) (prev_at l used) a after b
  there_and_back a [] b f u = (f, subst (λ (x : ℕ). prev_at l used x ≡ a) f (u a (omega (arith, alike_same a a refl))))
  there_and_back a (x ∷ after) b f u = (
    f.0,
    subst (λ (y : ℕ). prev_at l used y ≡ a) f.0 (u a (omega (arith, alike_same a a refl))),
    there_and_back x after b f.1 (λ i h. u i (omega arith)),
  )

  pub there : (a : ℕ) (after : List ℕ) (b : ℕ) → Seg (next_at l used) (prev_at l used) a after b → Follows l used a after b
  there a [] b s = s.0
  there a (x ∷ after) b s = (s.0, there x after b s.2)

  pub and_back : (a : ℕ) (after : List ℕ) (b : ℕ) → Seg (next_at l used) (prev_at l used) a after b →
      (i : ℕ) → 1 ≤ times i (a ∷ after) → prev_at l used (next_at l used i) ≡ i
  and_back a [] b s i h = go (ℕ_discrete i a)
    where
      go : Dec (i ≡ a) → prev_at l used (next_at l used i) ≡ i
      go (yes e) = ap (λ (x : ℕ). prev_at l used (next_at l used x)) e ∙ ap (prev_at l used) s.0 ∙ s.1 ∙ sym e
      go (no n) = absurd (omega (arith, alike_other i a n))
  and_back a (x ∷ after) b s i h = go (ℕ_discrete i a) (and_back x after b s.2 i)
    where
      go : Dec (i ≡ a) → (1 ≤ times i (x ∷ after) → prev_at l used (next_at l used i) ≡ i) → prev_at l used (next_at l used i) ≡ i
      go (yes e) r = ap (λ (y : ℕ). prev_at l used (next_at l used y)) e ∙ ap (prev_at l used) s.0 ∙ s.1 ∙ sym e
      go (no n) r = r (omega (arith, alike_other i a n))

module _ (l : List ℕ) (hd : Header) where
  pub linked : (s : Sound l hd) → LinkedTable l hd.used s.circle.after
  linked s =
      record {
        fronts = record {
          zero_even = s.zero_even.even;
          positive = omega (arith, (s.circle.only 0 (omega (arith, alike_same 0 0 refl))).below);
          every = s.circle.every;
          only = s.circle.only;
        };
        seg = there_and_back l hd.used 0 s.circle.after 0 s.circle.follows s.circle.undone;
        ends = λ f b r. (s.ends.back f b r, s.ends.front f b r);
      }

  unfoldable pub sound : (after : List ℕ) → LinkedTable l hd.used after → hd.live ≡ odd_count (version_at l hd.used) hd.used → Sound l hd
  sound after L c =
      record {
        zero_even = record { even = L.fronts.zero_even };
        live_count = record { counted = c };
        circle = record {
          after = after;
          follows = there l hd.used 0 after 0 L.seg;
          every = L.fronts.every;
          only = L.fronts.only;
          undone = and_back l hd.used 0 after 0 L.seg;
        };
        ends = record { back = λ f b r. (L.ends f b r).0; front = λ f b r. (L.ends f b r).1 };
      }

  pub sound_chain : (after : List ℕ) (L : LinkedTable l hd.used after) (c : hd.live ≡ odd_count (version_at l hd.used) hd.used) →
      (sound after L c).circle.after ≡ after
  unfolding sound
  sound_chain after L c = refl

pub off_zero : (v : ℕ → ℕ) (u : ℕ) (l : List ℕ) → Fronts v u l → times 0 l ≡ 0
off_zero v u l i = omega (arith, fronts_once v u l i 0, alike_same 0 0 refl)

-- the chain of a sound table is unique: the one that it is linked by, and so that of any other proof
pub chain_is : (l : List ℕ) (hd : Header) (s : Sound l hd) (after : List ℕ) → LinkedTable l hd.used after → s.circle.after ≡ after
chain_is l hd s after M =
    let L = linked l hd s in
    seg_unique (next_at l hd.used) (prev_at l hd.used) 0 s.circle.after after 0 L.seg M.seg
    (off_zero _ _ _ L.fronts) (off_zero _ _ _ M.fronts)

pub one_chain : (l : List ℕ) (hd : Header) (s t : Sound l hd) → s.circle.after ≡ t.circle.after
one_chain l hd s t = chain_is l hd s t.circle.after (linked l hd t)
