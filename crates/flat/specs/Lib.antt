-- What the contracts of `flat` and of the C surface cite. Assumes nothing.
pub mod Flat
