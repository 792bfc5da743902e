-- What the contracts of `stream` cite. Assumes nothing.
pub mod Repeats
pub mod Feeding
