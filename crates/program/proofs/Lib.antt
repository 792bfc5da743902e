-- What the proofs of the program share.
mod Starts
mod Rest
mod Goes
