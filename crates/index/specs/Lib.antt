-- The definitions that the contracts of this crate cite.
pub mod Index
pub mod Steps
