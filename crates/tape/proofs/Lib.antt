-- Laws of records and readings, for the crates above; and that each call allows one answer.
pub mod Packed
pub mod Records
pub mod Walks
pub mod Unique
