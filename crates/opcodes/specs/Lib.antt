-- The definitions that the contracts of this crate cite.
pub mod Manual
pub mod Census
pub mod Encode
pub mod Packed
pub mod Says
