-- Entries and their words, what each call gives, what the loops and the calls keep, and that each call allows one answer.
pub mod Words
pub mod Laws
pub mod Loops
pub mod Kept
pub mod Unique
