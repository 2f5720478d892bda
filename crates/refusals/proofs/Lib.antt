-- The law that every crate's Unique.antt applies, that it holds of the call here, and small laws that all crates share.
pub mod Unique
pub mod One
pub mod Never
pub mod Pick
pub mod Answers
pub mod Memory
