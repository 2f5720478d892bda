-- The laws of the tests, and that each public call allows one answer.
pub mod Laws
pub mod Unique
