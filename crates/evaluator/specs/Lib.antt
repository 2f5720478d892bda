-- The definitions that the contracts of this crate cite.
pub mod Expression
pub mod Evaluate
pub mod Says
pub mod Steps
pub mod Accepted
