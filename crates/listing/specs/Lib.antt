-- The definitions that the contracts of this crate cite.
pub mod Listing
pub mod Call
pub mod Theorems
