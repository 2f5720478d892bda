-- The bytes of a tape that lines make.
pub mod Tapes
