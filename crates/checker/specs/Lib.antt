-- The definitions that the contracts of this crate cite.
pub mod Check
pub mod Refusals
pub mod Call
