-- The definitions that the contracts of this crate cite.
pub mod Kinds
pub mod Packed
pub mod Record
pub mod Walk
