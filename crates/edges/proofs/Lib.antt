-- The laws of look-ups, and that each public call allows one answer.
pub mod Laws
pub mod Unique
