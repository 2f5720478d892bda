-- That each call allows one answer.
pub mod Unique
