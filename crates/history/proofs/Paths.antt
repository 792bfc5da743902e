-- What an event does to the machine, whatever call it happens in; and events one after another. Assumes nothing.
use mathlib.Core.Path.{◌≡◌, refl, sym, ap, ◌∙◌, subst}
use mathlib.Core.Logic.{◌≢◌}
use mathlib.Core.List.{List, [], ◌∷◌, ◌++◌}
use Prim.Native.Nat.{ℕ, ◌+◌, ◌≤◌, ◌<◌, ◌%◌, max}
use Rattle.rules.specs.Words.{zero_row, with_bit, rise}
use Rattle.rules.specs.declared.Key.{Key}
use Rattle.runs.specs.Points.{put}
use Rattle.runs.specs.Machine.{Machine, live_of}
use Rattle.runs.proofs.Points.{put_same, put_other}
use Rattle.history.specs.Events.{Event, handed, removed, wrote}
use Rattle.history.proofs.Live.{Live}

-- a key is handed out: for a vacant slot other than slot 0, or for the slot at used, and that only where no other is vacant
pub record Hands (m : Machine) (k : Key) (row : List ℕ) (m' : Machine) : Type 0 where
  pub low : k.index ≤ m.used
  pub past_zero : 0 < k.index
  pub odd : k.version % 2 ≡ 1
  pub vacant : k.index < m.used → m.versions k.index % 2 ≡ 0
  pub version : k.index < m.used → k.version ≡ with_bit (m.versions k.index)
  pub needed : k.index ≡ m.used → live_of m + 1 ≡ m.used
  pub versions : m'.versions ≡ put m.versions k.index k.version
  pub rows : m'.rows ≡ put m.rows k.index row
  pub used : m'.used ≡ max m.used (k.index + 1)

-- a live key is removed
pub record Removes (m : Machine) (k : Key) (m' : Machine) : Type 0 where
  pub live : Live m k
  pub versions : m'.versions ≡ put m.versions k.index (rise (m.versions k.index))
  pub rows : m'.rows ≡ put m.rows k.index zero_row
  pub used : m'.used ≡ m.used

-- a row is written through its live key
pub record Writes (m : Machine) (k : Key) (row : List ℕ) (m' : Machine) : Type 0 where
  pub live : Live m k
  pub versions : m'.versions ≡ m.versions
  pub rows : m'.rows ≡ put m.rows k.index row
  pub used : m'.used ≡ m.used

abbrev pub Happens : Machine → Event → Machine → Type 0
Happens m (handed k row) m' = Hands m k row m'
Happens m (removed k) m' = Removes m k m'
Happens m (wrote k row) m' = Writes m k row m'

abbrev pub Path : Machine → List Event → Machine → Type 0
Path m [] m' = m ≡ m'
Path m (e ∷ es) m' = (x : Machine) × Happens m e x × Path x es m'

pub one : (m : Machine) (e : Event) (m' : Machine) → Happens m e m' → Path m (e ∷ []) m'
one m e m' h = (m', h, refl)

pub join : (m : Machine) (es : List Event) (x : Machine) (fs : List Event) (y : Machine) → Path m es x → Path x fs y → Path m (es ++ fs) y
join m [] x fs y p q = subst (λ (a : Machine). Path a fs y) (sym p) q
join m (e ∷ es) x fs y p q = (p.0, p.1, join p.0 es x fs y p.2 q)

pub parted : (m : Machine) (es fs : List Event) (y : Machine) → Path m (es ++ fs) y → (x : Machine) × Path m es x × Path x fs y
parted m [] fs y p = (m, refl, p)
parted m (e ∷ es) fs y p = let q = parted p.0 es fs y p.2 in (q.0, (p.0, p.1, q.1), q.2)

-- a function changed at a slot, there and elsewhere
module _ {A : Type 0} (f g : ℕ → A) (i : ℕ) (x : A) (e : g ≡ put f i x) where
  pub changed_here : g i ≡ x
  changed_here = ap (λ (h : ℕ → A). h i) e ∙ put_same f i x i refl

  pub changed_not : (j : ℕ) → j ≢ i → g j ≡ f j
  changed_not j n = ap (λ (h : ℕ → A). h j) e ∙ put_other f i x j n
