-- The definitions that the contracts of this crate cite.
pub mod Try
pub mod Tries
pub mod Write
pub mod Steps
