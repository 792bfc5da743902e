-- The bench: a script of steps, run by the rules over tables of meaningless words, and what it replies.
use Rattle.std.specs.Prelude.{ℕ, ◌+◌, ◌*◌, List, [], ◌∷◌, map, replicate, take}
use Rattle.rules.specs.Words.{zero_row, link_words, row_words, next_at, other_end_at, version_at, set_version}
use Rattle.rules.specs.Values.{Values, Outcome, keyed, visited, done, refused}
use Rattle.rules.specs.Start.{start_rule}
use Rattle.rules.specs.Insert.{insert_rule}
use Rattle.rules.specs.Remove.{remove_rule}
use Rattle.rules.specs.Hop.{hop_rule}
use Rattle.rules.specs.Clear.{clear_rule}
use Rattle.rules.specs.Rebuild.{rebuild_rule}
use Rattle.rules.specs.declared.Header.{Header}
use Rattle.rules.specs.declared.Key.{Key}

-- a call, versions written by the caller before a rebuild, or a look at words and header
pub data Step : Type 0 where
  start : Step
  insert : ℕ → Step
  remove : ℕ → ℕ → Step
  clear : Step
  hop : ℕ → Step
  rebuild : List ℕ → Step
  write_versions : List ℕ → Step
  see_used : Step
  see_live : Step
  see_version : ℕ → Step
  see_next : ℕ → Step
  see_other_end : ℕ → Step
  see_links : Step
  see_rows : Step

pub data Reply : Type 0 where
  says : Values → List ℕ → Reply
  shows : List ℕ → Reply

pub record Tables : Type 0 where
  pub links : List ℕ
  pub rows : List ℕ
  pub header : Header

pub record Case : Type 0 where
  pub lent : ℕ
  pub script : List (Step × Reply)

-- the word that the tables lent hold everywhere
abbrev pub unset : ℕ
unset = 9

-- tables of such words, and a header that does not fit them
abbrev pub lend : ℕ → Tables
lend n =
    record {
      links = replicate (n * link_words) unset;
      rows = replicate (n * row_words) unset;
      header = record { used = 0; live = 77 };
    }

-- the row of the nth buoy
abbrev pub buoy : ℕ → List ℕ
buoy n = n ∷ 20 ∷ 30 ∷ 40 ∷ 50 ∷ 60 ∷ 70 ∷ 80 ∷ []

abbrev pub key : ℕ → ℕ → Key
key i v = record { index = i; version = v }

abbrev told : Outcome → Reply × Tables
told o = (says o.answer o.row, record { links = o.links; rows = o.rows; header = o.header })

abbrev seen : Tables → List ℕ → Reply × Tables
seen s words = (shows words, s)

-- the links with the versions from slot i on made those of the list
abbrev with_versions : ℕ → List ℕ → List ℕ → List ℕ
with_versions i [] l = l
with_versions i (v ∷ vs) l = with_versions (i + 1) vs (set_version l i v)

abbrev act : Step → Tables → Reply × Tables
act start s = told (start_rule s.links s.rows s.header)
act (insert n) s = told (insert_rule s.links s.rows s.header (buoy n))
act (remove i v) s = told (remove_rule s.links s.rows s.header (key i v))
act clear s = told (clear_rule s.links s.rows s.header)
act (hop c) s = told (hop_rule s.links s.rows s.header c)
act (rebuild bytes) s = told (rebuild_rule s.links s.rows s.header bytes)
act (write_versions vs) s =
    (shows [], record { links = with_versions 0 vs s.links; rows = s.rows; header = s.header })
act see_used s = seen s (s.header.used ∷ [])
act see_live s = seen s (s.header.live ∷ [])
act (see_version i) s = seen s (version_at s.links s.header.used i ∷ [])
act (see_next i) s = seen s (next_at s.links s.header.used i ∷ [])
act (see_other_end i) s = seen s (other_end_at s.links s.header.used i ∷ [])
act see_links s = seen s (take (s.header.used * link_words) s.links)
act see_rows s = seen s (take (s.header.used * row_words) s.rows)

abbrev run : List (Step × Reply) → Tables → List Reply
run [] s = []
run (x ∷ xs) s =
    let y = act x.0 s in
    y.0 ∷ run xs y.1

abbrev expected : Step × Reply → Reply
expected x = x.1

-- what a case replies, and what stands beside its steps
abbrev pub replied : Case → List Reply
replied x = run x.script (lend x.lent)

abbrev pub wanted : Case → List Reply
wanted x = map expected x.script

-- a key handed out; a key removed, with its row; a key met on a walk, with the cursor after it; done; a refusal
abbrev pub hands_out : ℕ → ℕ → Reply
hands_out i v = says (keyed (key i v)) zero_row

abbrev pub takes : ℕ → ℕ → List ℕ → Reply
takes i v row = says (keyed (key i v)) row

abbrev pub meets : ℕ → ℕ → ℕ → Reply
meets i v c = says (visited (key i v) c) zero_row

abbrev pub ended : Reply
ended = says done zero_row

abbrev pub turned_down : ℕ → Reply
turned_down n = says (refused n) zero_row

abbrev pub word : ℕ → Reply
word x = shows (x ∷ [])

abbrev pub slot : ℕ → ℕ → ℕ → ℕ → List ℕ
slot version next prev other-end = version ∷ next ∷ prev ∷ other-end ∷ []

-- a row as it was lent
abbrev pub old : List ℕ
old = replicate row_words unset

abbrev pub written : Reply
written = shows []

abbrev pub on : ℕ → List (Step × Reply) → Case
on n steps = record { lent = n; script = steps }
