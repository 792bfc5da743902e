-- What the flat form settles.
pub mod Settled
