-- Why the calls keep their promises.
pub mod Onto
pub mod Records
pub mod Gathering
pub mod Spreading
pub mod Kept
pub mod Unique
