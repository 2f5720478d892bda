-- Paths of name records, and notes of names; and that each call allows one answer.
pub mod Paths
pub mod Notes
pub mod Unique
