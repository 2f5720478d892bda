-- The laws that the proofs of this crate share, and that each public call allows one answer.
pub mod Modulo
pub mod Laws
pub mod Unique
