-- A bystander hears the calls and their answers and sees no table. What they have of every key, reckoned call by call.
use Rattle.std.specs.Prelude.{ℕ, List, [], ◌∷◌, Bool, true, eqb}
use Rattle.rules.specs.Choice.{pick, both}
use Rattle.rules.specs.Values.{Kind, gives, ends, refuses, Values}
use Rattle.rules.specs.Retain.{struck_by}
use Rattle.rules.specs.declared.Key.{Key}
use Rattle.history.specs.Calls.{Call, begin, ask, insert, remove, write, replace, drain, clear, retain}

-- the row of a live key; no words for any other key
abbrev pub Book : Type 0
Book = Key → List ℕ

abbrev pub same_key : Key → Key → Bool
same_key k x = both (eqb k.index x.index) (eqb k.version x.version)

-- a row is set down under its key; the keys that are gone are struck out
abbrev pub entered : Key → List ℕ → Book → Book
entered k row b x = pick (same_key k x) row (b x)

abbrev pub struck : (Key → Bool) → Book → Book
struck gone b x = pick (gone x) [] (b x)

-- the first where the call gave something, else the second; the first unless it was refused
abbrev pub if_given : {A : Type 0} → Kind → A → A → A
if_given gives x y = x
if_given ends x y = y
if_given refuses x y = y

abbrev pub unless_refused : {A : Type 0} → Kind → A → A → A
unless_refused gives x y = x
unless_refused ends x y = x
unless_refused refuses x y = y

-- the book after a call and its answer
abbrev pub noted : Call → Values → Book → Book
noted (begin b) a book = book
noted (ask q) a book = book
noted (insert side) a book = if_given a.kind (entered a.key side book) book
noted (remove k) a book = unless_refused a.kind (struck (same_key k) book) book
noted (write k row) a book = unless_refused a.kind (entered k row.words book) book
noted (replace k side) a book = unless_refused a.kind (entered k side book) book
noted drain a book = if_given a.kind (struck (same_key a.key) book) book
noted clear a book = unless_refused a.kind (struck (λ k. true) book) book
noted (retain bytes) a book = unless_refused a.kind (struck (λ k. struck_by bytes k.index) book) book

-- after calls and their answers
abbrev pub reckoned : Book → List Call → List Values → Book
reckoned book [] answers = book
reckoned book (c ∷ cs) [] = book
reckoned book (c ∷ cs) (a ∷ answers) = reckoned (noted c a book) cs answers
