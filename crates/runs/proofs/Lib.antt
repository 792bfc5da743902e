-- Why the theory of runs holds. Each file stands on those above it. The theorems that others cite, and where they are:
--   each call is the machine's step and leaves a sound table; its numbers         Calls
--   start and rebuild leave a sound table                                         Begun
--   the chain of a sound table is unique                                          Sound
--   the check accepts exactly the sound tables                                    Checked
--   relinking leaves a sound table, its chain rising; rows of vacant slots        RelinkedSound, ClearedRows
--   the lowest live slot is other_end(0) + 1                                      Drained
--   a walk visits exactly the live keys, rising, each once, and ends              Walked
--   the chosen removed, for any choice: what is left, and how many went           Chosen, ChosenLeaves
--   clear ends; retain's way is its rule                                          Chosen, Scanned
--   full is exactly used = lent and nothing but slot 0 vacant                     Full
--   words inside a run and link words of occupied slots mean nothing              Calls
--
-- A table as functions of the slot: one changed slot; one link word, the four, and the rows; how often a slot stands in a list; and a
-- doubly linked way through slots.
pub mod Points
pub mod Words
pub mod Readers
pub mod Rows
pub mod Times
pub mod Segments
-- Runs, told by the versions alone: every vacant slot is in one; their fronts as a list; how many slots are occupied; the rules' tests
-- of runs; the back found by scanning; the fronts in rising order.
pub mod Runs
pub mod Fronts
pub mod Counts
pub mod RunTests
pub mod Backs
pub mod Rising
-- One slot changes: it falls vacant, it is filled at a run's back, it comes into use. What becomes of fronts and ends; then, with next,
-- prev and other_end, that each case of insert and remove keeps a table linked.
pub mod Freed
pub mod Filled
pub mod Grown
pub mod Linked
pub mod Joined
pub mod Taken
-- Sound, as the rules say it, is a linked table with its count, its chain unique; the check accepts exactly that; relinking makes it.
pub mod Sound
pub mod Circles
pub mod Checked
pub mod Chained
pub mod Relinked
pub mod RelinkedSound
pub mod ClearedRows
-- Each call of the rules is the machine's step: what all calls share, then insert and remove (the words they write, then the call),
-- the hop step and walks, the drain step, the removal of the chosen, retain's way to it, the beginnings, the rest.
pub mod ChainEdits
pub mod Followed
pub mod Shown
pub mod RemoveWords
pub mod Removed
pub mod InsertWords
pub mod Inserted
pub mod Hopped
pub mod Walked
pub mod ChosenMachine
pub mod DrainMachine
pub mod Drained
pub mod Chosen
pub mod ChosenLeaves
pub mod Scanned
pub mod Begun
pub mod Accessed
-- The calls one by one, what is never given, what means nothing; and what full is.
pub mod Calls
pub mod Full
