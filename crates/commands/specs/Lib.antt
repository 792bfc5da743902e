-- What the contracts of `commands` cite. Assumes nothing.
pub mod Turns
