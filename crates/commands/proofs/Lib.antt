-- What is known of a turn, with its call and beside its tables.
pub mod Spoken
