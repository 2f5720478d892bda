-- Texts taken apart, and that each public call allows one answer.
pub mod Scans
pub mod Unique
