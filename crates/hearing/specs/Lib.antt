-- What the contracts of `hearing` cite. Assumes nothing.
pub mod Heard
