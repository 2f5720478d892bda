-- That the call allows one answer.
pub mod Unique
