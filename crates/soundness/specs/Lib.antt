-- The definitions that the contracts of this crate cite.
pub mod Sound
pub mod Steps
