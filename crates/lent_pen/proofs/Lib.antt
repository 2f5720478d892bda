-- What `emit_two` rests on, and that each public call allows one answer.
pub mod Two
pub mod Unique
