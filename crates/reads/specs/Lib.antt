-- The definitions that the contracts of the crates above cite.
pub mod Reads
