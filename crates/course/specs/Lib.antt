-- The rule of the whole stream. Read in this order. Assumes nothing.
pub mod Course
pub mod Pieces
pub mod Calls
pub mod Day
