-- What calls keep, and that each public call allows one answer.
pub mod Kept
pub mod Unique
