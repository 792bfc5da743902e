-- A step taken over and over; what a turn says; feeding comes to its end; one outcome.
pub mod Repeats
pub mod Spoken
pub mod Turns
pub mod Settled
-- What the proofs of the functions share.
mod Numbered
