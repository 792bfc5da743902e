-- An event, told to a bystander who had what look answers, leaves them with what look answers. Assumes nothing.
use mathlib.Core.Path.{◌≡◌, refl, sym, ap, ◌∙◌, subst, fun_ext}
use mathlib.Core.Logic.{◌≢◌}
use mathlib.Core.List.{List, [], ◌∷◌}
use Prim.Native.Nat.{ℕ, ◌<◌, ◌%◌}
use native.Mathlib.Decide.{ℕ_discrete}
use native.Mathlib.Omega.{arith}
use borrow.Author.Tests.{eq-eqb, ne_eqb}
use Rattle.rules.specs.Choice.{pick}
use Rattle.rules.specs.Refusals.{passes}
use Rattle.rules.specs.declared.Key.{Key}
use Rattle.runs.specs.Machine.{Machine}
use Rattle.runs.specs.Steps.{key_number_on, look_on}
use Rattle.runs.proofs.Counts.{rise_even}
use Rattle.history.specs.Bystander.{same_key}
use Rattle.history.specs.Events.{Event, handed, removed, wrote, told, all_told}
use Rattle.history.proofs.Live.{same_key_lem, Live, live_passes, passes_live, look_live, look_dead}
use Rattle.history.proofs.Paths.{Hands, Removes, Writes, Happens, Path, changed_here, changed_not}

-- machines that have one version and one row at a key's slot answer alike
pub look_alike : (m m' : Machine) (k : Key) → m'.versions k.index ≡ m.versions k.index → m'.rows k.index ≡ m.rows k.index →
    (k.index < m.used → k.index < m'.used) → (k.index < m'.used → k.index < m.used) → look_on m k ≡ look_on m' k
look_alike m m' k v r there back = go (ℕ_discrete (key_number_on passes m k) 0)
  where
    go : Dec (key_number_on passes m k ≡ 0) → look_on m k ≡ look_on m' k
    go (yes e) =
        let a = passes_live m k e in
        look_live m k a ∙ sym r ∙ sym (look_live m' k (record { low = there a.low; odd = a.odd; same = v ∙ a.same }))
    go (no n) =
        look_dead m k (λ a. n (live_passes m k a))
        ∙ sym (look_dead m' k (λ a. n (live_passes m k (record { low = back a.low; odd = a.odd; same = sym v ∙ a.same }))))

-- at one slot something changed: look answers `out` for key k now, and for no other key of that slot, before or after
record OneSlot (m m' : Machine) (k : Key) (out : List ℕ) : Type 0 where
  versions : (j : ℕ) → j ≢ k.index → m'.versions j ≡ m.versions j
  rows : (j : ℕ) → j ≢ k.index → m'.rows j ≡ m.rows j
  there : (j : ℕ) → j ≢ k.index → j < m.used → j < m'.used
  back : (j : ℕ) → j ≢ k.index → j < m'.used → j < m.used
  now : look_on m' k ≡ out
  none_before : (w : ℕ) → w ≢ k.version → Live m (record { index = k.index; version = w }) → ⊥
  none_after : (w : ℕ) → w ≢ k.version → Live m' (record { index = k.index; version = w }) → ⊥

one_slot : (m m' : Machine) (k : Key) (out : List ℕ) → OneSlot m m' k out → (x : Key) → pick (same_key k x) out (look_on m x) ≡ look_on m' x
one_slot m m' k out s x = go (ℕ_discrete k.index x.index) (ℕ_discrete k.version x.version)
  where
    go : Dec (k.index ≡ x.index) → Dec (k.version ≡ x.version) → pick (same_key k x) out (look_on m x) ≡ look_on m' x
    go (yes i) (yes w) = simp (eq-eqb _ _ i, eq-eqb _ _ w) (sym s.now ∙ ap (look_on m') (same_key_lem k x i w))
    go (yes i) (no w) =
        let e = same_key_lem (record { index = k.index; version = x.version }) x i refl in
        simp (eq-eqb _ _ i, ne_eqb _ _ w)
        (look_dead m x (λ a. s.none_before x.version (λ z. w (sym z)) (subst (Live m) (sym e) a))
        ∙ sym (look_dead m' x (λ a. s.none_after x.version (λ z. w (sym z)) (subst (Live m') (sym e) a))))
    go (no i) d =
        let j : x.index ≢ k.index = λ z. i (sym z) in
        simp (ne_eqb _ _ i)
        (look_alike m m' x (s.versions x.index j) (s.rows x.index j) (s.there x.index j) (s.back x.index j))

hands : (m : Machine) (k : Key) (row : List ℕ) (m' : Machine) → Hands m k row m' → OneSlot m m' k row
hands m k row m' h =
    record {
      versions = changed_not _ _ _ _ h.versions;
      rows = changed_not _ _ _ _ h.rows;
      there = λ j n q. omega (arith, h.used);
      back = λ j n q. omega (arith, h.used, h.low);
      now = look_live m' k (record { low = omega (arith, h.used); odd = h.odd; same = here }) ∙ changed_here _ _ _ _ h.rows;
      none_before = λ w n a. omega (arith, a.odd, h.vacant a.low, ap (λ (x : ℕ). x % 2) a.same);
      none_after = λ w n a. n (sym a.same ∙ here);
    }
  where
    here : m'.versions k.index ≡ k.version
    here = changed_here _ _ _ _ h.versions

removes : (m : Machine) (k : Key) (m' : Machine) → Removes m k m' → OneSlot m m' k []
removes m k m' h =
    record {
      versions = changed_not _ _ _ _ h.versions;
      rows = changed_not _ _ _ _ h.rows;
      there = λ j n q. omega (arith, h.used);
      back = λ j n q. omega (arith, h.used);
      now = look_dead m' k (λ a. none k.version a);
      none_before = λ w n a. n (sym a.same ∙ h.live.same);
      none_after = λ w n a. none w a;
    }
  where
    even : m'.versions k.index % 2 ≡ 0
    even =
        ap (λ (x : ℕ). x % 2) (changed_here _ _ _ _ h.versions)
        ∙ rise_even (m.versions k.index) (ap (λ (x : ℕ). x % 2) h.live.same ∙ h.live.odd)

    none : (w : ℕ) → Live m' (record { index = k.index; version = w }) → ⊥
    none w a = omega (arith, even, a.odd, ap (λ (x : ℕ). x % 2) a.same)

writes : (m : Machine) (k : Key) (row : List ℕ) (m' : Machine) → Writes m k row m' → OneSlot m m' k row
writes m k row m' h =
    record {
      versions = λ j n. version j;
      rows = changed_not _ _ _ _ h.rows;
      there = λ j n q. omega (arith, h.used);
      back = λ j n q. omega (arith, h.used);
      now = look_live m' k (record { low = omega (arith, h.used, h.live.low); odd = h.live.odd; same = here }) ∙ changed_here _ _ _ _ h.rows;
      none_before = λ w n a. n (sym a.same ∙ h.live.same);
      none_after = λ w n a. n (sym a.same ∙ here);
    }
  where
    version : (j : ℕ) → m'.versions j ≡ m.versions j
    version j = ap (λ (f : ℕ → ℕ). f j) h.versions

    here : m'.versions k.index ≡ k.version
    here = version k.index ∙ h.live.same

-- an event, and events one after another
pub told_is : (m : Machine) (e : Event) (m' : Machine) → Happens m e m' → told e (look_on m) ≡ look_on m'
told_is m (handed k row) m' h = fun_ext (one_slot m m' k row (hands m k row m' h))
told_is m (removed k) m' h = fun_ext (one_slot m m' k [] (removes m k m' h))
told_is m (wrote k row) m' h = fun_ext (one_slot m m' k row (writes m k row m' h))

pub all_told_lem : (m : Machine) (es : List Event) (m' : Machine) → Path m es m' → all_told es (look_on m) ≡ look_on m'
all_told_lem m [] m' p = ap look_on p
all_told_lem m (e ∷ es) m' p = ap (all_told es) (told_is m e p.0 p.1) ∙ all_told_lem p.0 es m' p.2
