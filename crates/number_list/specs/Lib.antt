-- The definitions that the contracts of this crate, and of those above it, cite.
pub mod Lists
pub mod Calls
pub mod Steps
