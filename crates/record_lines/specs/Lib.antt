-- The definitions that the contracts of this crate cite.
pub mod Records
pub mod Steps
