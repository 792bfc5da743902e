-- Laws of the bytes: which begin a command, how long each thing is, how stores join, and what a reply leaves of the output.
pub mod FiveKinds
pub mod Lengths
pub mod Sets
pub mod Output
