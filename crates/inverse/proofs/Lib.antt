-- The theorems of this crate (Inverse, RoundTrip, Unique), and the laws that its proofs share.
pub mod Inverse
pub mod Decoding
pub mod RoundTrip
pub mod Unique
