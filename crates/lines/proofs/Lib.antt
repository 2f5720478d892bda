-- How long bytes are, each behind a space; how long lines are; and that each public call allows one answer.
pub mod Bytes
pub mod Lengths
pub mod Unique
