-- Where each word of a slot stands.
pub mod Places
