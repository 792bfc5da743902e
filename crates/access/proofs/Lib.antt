-- What the proofs of access share.
mod Part
