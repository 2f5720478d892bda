-- That the operators refuse with 10 alone, and that each public call allows one answer.
pub mod Refusing
pub mod Unique
