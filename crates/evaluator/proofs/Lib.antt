-- Laws of meanings; and that each public call allows one answer.
pub mod Meanings
pub mod Along
pub mod Evaluates
pub mod Accepted
pub mod Unique
