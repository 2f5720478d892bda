-- That each public call allows one answer.
pub mod Unique
