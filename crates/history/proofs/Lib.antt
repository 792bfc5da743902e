-- Why demands 1 and 3 hold. The terms are in Demands; each file stands on those above it.
--
-- A live key of a machine; what an event does to a machine, and events one after another; then, event by event: what the bystander has,
-- how many slots are in use, how often a slot's version has gone round.
pub mod Live
pub mod Paths
pub mod Books
pub mod Counted
pub mod Ages
-- What a write through a part does; every call on any words, which is demand 1; what a call's number tells on a sound table.
pub mod Parts
pub mod AnyWords
pub mod Refusing
-- What a call makes of a machine: nothing, one event, or the chosen removed; and, one lemma a call, that each comes down to its events; the
-- row that a removal hands back.
pub mod Becoming
pub mod Reduced
pub mod GivenBack
-- Where a history begins, one lemma a beginning; calls one after another; the demands.
pub mod Beginnings
pub mod Whole
pub mod Demands
-- After how many removals a key is handed out again; a history in which it comes back; and a season, by computation.
pub mod Again
pub mod Rounds
mod Tried
