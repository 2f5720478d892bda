-- The theorems of this crate (Census, Packed, Relative, Single, Encoding, Unique), and the laws that its proofs share.
pub mod Table
pub mod Manual
pub mod Census
pub mod Packed
pub mod Relative
pub mod Single
pub mod Encoding
pub mod Unique
