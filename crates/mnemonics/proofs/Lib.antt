-- The letters of each mnemonic, and that the public call allows one answer.
pub mod Letters
pub mod Unique
