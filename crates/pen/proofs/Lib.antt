-- The laws of pens, what `new` keeps, and that each public call allows one answer.
pub mod Laws
pub mod Kept
pub mod Unique
