-- The laws of little-endian numbers, and that each public call allows one answer.
pub mod Laws
pub mod Unique
