-- The definitions that the contracts of this crate cite.
pub mod Inverse
pub mod Decode
pub mod Says
