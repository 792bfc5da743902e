-- A day of the stream on three slots lent, command by command with the reply beside each; and document 01's whole run. proofs/Tried has the one statement.
use Rattle.std.specs.Prelude.{ℕ, List, [], ◌∷◌, ◌++◌, true, ◌≡◌, replicate}
use Rattle.rules.specs.Refusals.{shape}
use Rattle.rules.specs.Start.{start_rule}
use Rattle.wire.specs.declared.Command.{Command}
use Rattle.commands.specs.Turns.{Run, run_of}
use Rattle.commands.specs.declared.Phase.{Phase}
use Rattle.hearing.specs.Heard.{opened}
use Rattle.stream.specs.Feeding.{Piece, feed_rule}
use Rattle.course.specs.Course.{course, whole}

-- the run that start leaves, of zeroed tables
abbrev pub morning : Run
morning =
    let o = start_rule (replicate 12 0) (replicate 24 0) (record { used = 0; live = 0 }) in
    run_of o.links o.rows (opened o.header)

-- the bytes of a word whose low byte is n, and of a key; a row of a different byte at each place, and one of zeros
abbrev low : ℕ → List ℕ
low n = n ∷ 0 ∷ 0 ∷ 0 ∷ []

abbrev key : ℕ → ℕ → List ℕ
key i v = low i ++ low v

abbrev bytes : List ℕ
bytes =
    1 ∷ 2 ∷ 3 ∷ 4 ∷ 5 ∷ 6 ∷ 7 ∷ 8 ∷ 9 ∷ 10 ∷ 11 ∷ 12 ∷ 13 ∷ 14 ∷ 15 ∷ 16 ∷ 17 ∷ 18 ∷ 19 ∷ 20 ∷ 21 ∷ 22 ∷ 23 ∷ 24 ∷ 25 ∷ 26 ∷ 27 ∷ 28 ∷ 29 ∷ 30 ∷ 31 ∷ 32 ∷ []

abbrev zeros : List ℕ
zeros = replicate 32 0

-- commands, each with its reply
abbrev Said : Type 0
Said = List (List ℕ × List ℕ)

abbrev pub heard_of : Said → List ℕ
heard_of [] = []
heard_of (x ∷ xs) = x.0 ++ heard_of xs

abbrev pub replied_of : Said → List ℕ
replied_of [] = []
replied_of (x ∷ xs) = x.1 ++ replied_of xs

-- document 01's whole run
abbrev pub whole_run : Said
whole_run = (1 ∷ zeros, 129 ∷ key 1 1) ∷ (5 ∷ [], (130 ∷ key 1 1 ++ zeros) ++ 131 ∷ []) ∷ []

-- two buoys are heard and a third is refused; one is lost, its key is dead, its slot is used again; keys that none ever had; a walk, a clear,
-- a walk over nothing
abbrev pub day : Said
day =
    (1 ∷ bytes, 129 ∷ key 1 1)
    ∷ (1 ∷ zeros, 129 ∷ key 2 1)
    ∷ (1 ∷ bytes, 132 ∷ 5 ∷ [])
    ∷ (3 ∷ key 1 1, 130 ∷ key 1 1 ++ bytes)
    ∷ (2 ∷ key 1 1, 130 ∷ key 1 1 ++ bytes)
    ∷ (3 ∷ key 1 1, 132 ∷ 4 ∷ [])
    ∷ (1 ∷ bytes, 129 ∷ key 1 3)
    ∷ (2 ∷ key 1 2, 132 ∷ 3 ∷ [])
    ∷ (3 ∷ key 9 1, 132 ∷ 4 ∷ [])
    ∷ (5 ∷ [], (130 ∷ key 1 3 ++ bytes) ++ (130 ∷ key 2 1 ++ zeros) ++ 131 ∷ [])
    ∷ (4 ∷ [], 131 ∷ [])
    ∷ (5 ∷ [], 131 ∷ [])
    ∷ []

-- a kind that is none, and what spoken_after it is not read; a body cut short
abbrev pub broken : ℕ → Said
broken kind = (1 ∷ zeros, 129 ∷ key 1 1) ∷ (kind ∷ 4 ∷ 5 ∷ [], 132 ∷ 9 ∷ []) ∷ []

abbrev pub cut : Said
cut = (1 ∷ zeros, 129 ∷ key 1 1) ∷ (2 ∷ 1 ∷ 0 ∷ 0 ∷ 0 ∷ 1 ∷ 0 ∷ 0 ∷ [], 132 ∷ 9 ∷ []) ∷ []

-- two buoys heard, and a walk begun with an output of fifty bytes: the first row is replied, the second waits, and no byte after the walk is read
abbrev pub evening : Piece
evening = feed_rule (course morning (heard_of (whole_run ++ whole_run))).run (5 ∷ 4 ∷ []) (replicate 50 7)

-- the number of a piece whose state has this phase, and two slots in use
abbrev pub number_in : Phase → ℕ
number_in p =
    let x = (course morning (heard_of whole_run)).run in
    (feed_rule (run_of x.links x.rows (record { header = x.stream.header; phase = p; body = x.stream.body })) (4 ∷ []) (replicate 50 7)).number

pub record Told : Type 0 where
  pub document_01 : (whole morning (heard_of whole_run)).said ≡ replied_of whole_run
  pub day_replies : (whole morning (heard_of day)).said ≡ replied_of day
  pub kind_0 : (whole morning (heard_of (broken 0))).said ≡ replied_of (broken 0)
  pub kind_6 : (whole morning (heard_of (broken 6))).said ≡ replied_of (broken 6)
  pub kind_255 : (whole morning (heard_of (broken 255))).said ≡ replied_of (broken 255)
  pub cut_body : (whole morning (heard_of cut)).said ≡ replied_of cut
  pub nothing : (whole morning []).said ≡ []
  pub evening_taken : evening.taken ≡ 1
  pub evening_written : evening.written ≡ 41
  pub evening_waits : evening.waits ≡ true
  pub evening_out : evening.out ≡ 130 ∷ key 1 1 ++ zeros ++ replicate 9 7
  pub evening_phase : evening.run.stream.phase ≡ Phase.Walking 2
  pub last_byte_to_come : number_in (Phase.Gathering Command.Look 7) ≡ 0
  pub no_byte_to_come : number_in (Phase.Gathering Command.Look 8) ≡ shape
  pub no_body : number_in (Phase.Gathering Command.Clear 0) ≡ shape
  pub no_kind : number_in (Phase.Gathering Command.Unknown 0) ≡ shape
  pub walk_at_its_start : number_in (Phase.Walking 0) ≡ shape
  pub walk_after_slot_0 : number_in (Phase.Walking 1) ≡ shape
  pub walk_after_slot_1 : number_in (Phase.Walking 2) ≡ 0
  pub walk_past_used : number_in (Phase.Walking 3) ≡ shape
