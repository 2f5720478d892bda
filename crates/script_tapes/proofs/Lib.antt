-- The labels of a tape, and that each public call allows one answer.
pub mod Making
pub mod Unique
