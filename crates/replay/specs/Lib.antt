pub mod Checksum
pub mod Room
