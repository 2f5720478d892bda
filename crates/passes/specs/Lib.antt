-- The definitions that the contracts of this crate cite.
pub mod Passes
pub mod Settle
pub mod Least
pub mod Steps
