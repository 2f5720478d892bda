-- The definitions that the contracts of this crate cite.
pub mod Parts
pub mod Words
pub mod Numbers
pub mod Commands
