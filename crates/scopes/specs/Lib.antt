-- The definitions that the contracts of this crate cite.
pub mod Scopes
pub mod Steps
