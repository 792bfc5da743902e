-- What the contracts of `wire` cite. Assumes nothing.
pub mod Commands
pub mod Words
pub mod Replies
