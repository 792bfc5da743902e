-- Slots from used upward are never read; in rebuild, from its n upward; start reads none at all.
-- Stated once, for a rule and the m below which it may read: used, n or 0. Nor is a slot written from the new used upward.
use Rattle.std.specs.Prelude.{ℕ, ◌*◌, List, ◌≡◌, length, take, drop}
use Rattle.rules.specs.Words.{link_words, row_words}
use Rattle.rules.specs.Values.{Kind, gives, ends, refuses, Outcome}

-- two lists of one length with the same first n words
pub record AgreeTo (n : ℕ) (a b : List ℕ) : Type 0 where
  pub lengths : length a ≡ length b
  pub words : take n a ≡ take n b

-- two pairs of tables that agree below slot m, row words included
pub record AgreeBelow (m : ℕ) (l l' r r' : List ℕ) : Type 0 where
  pub links : AgreeTo (m * link_words) l l'
  pub rows : AgreeTo (m * row_words) r r'

-- below which slot the tables are known afterwards: the new used, and after a refusal as before
abbrev pub reach : Kind → ℕ → ℕ → ℕ
reach gives m used = used
reach ends m used = used
reach refuses m used = m

abbrev pub reached : ℕ → Outcome → ℕ
reached m o = reach o.answer.kind m o.header.used

-- the same answer, row by value and header, and tables that agree as far as they are known
pub record Alike (m : ℕ) (o o' : Outcome) : Type 0 where
  pub answer : o.answer ≡ o'.answer
  pub row : o.row ≡ o'.row
  pub header : o.header ≡ o'.header
  pub tables : AgreeBelow (reached m o) o.links o'.links o.rows o'.rows

-- from slot m upward both tables are the old ones
pub record Kept (m : ℕ) (l r : List ℕ) (o : Outcome) : Type 0 where
  pub links : drop (m * link_words) o.links ≡ drop (m * link_words) l
  pub rows : drop (m * row_words) o.rows ≡ drop (m * row_words) r

-- a rule that reads nothing from slot m upward, and writes nothing past where the tables are known
pub record NeverReads (m : ℕ) (rule : List ℕ → List ℕ → Outcome) : Type 0 where
  pub alike : (l l' r r' : List ℕ) → AgreeBelow m l l' r r' → Alike m (rule l r) (rule l' r')
  pub kept : (l r : List ℕ) → Kept (reached m (rule l r)) l r (rule l r)

-- the same of a call that answers and leaves the tables as they are
pub record AnswersAlike {A : Type 0} (m : ℕ) (answer : List ℕ → List ℕ → A) : Type 0 where
  pub alike : (l l' r r' : List ℕ) → AgreeBelow m l l' r r' → answer l r ≡ answer l' r'
