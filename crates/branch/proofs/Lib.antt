-- The theorems of this crate, with a law that a proof cites, and that its public call allows one answer.
pub mod Branch
pub mod Unique
