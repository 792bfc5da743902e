-- The laws of the whole stream, each file over those above it.
--
-- A walk, and the course of the stream, turn by turn.
pub mod Walks
pub mod Courses
-- However the input is cut; its end; where a feed stops, and within what; the states that it leaves.
pub mod FedTurns
pub mod Pieces
pub mod Reached
pub mod Whole
pub mod Stops
pub mod Bounds
pub mod Possible
pub mod Ways
pub mod Left
-- The stream is a history, and demand 3 of it.
pub mod Histories
pub mod Program
-- A day, by computation.
mod Tried
