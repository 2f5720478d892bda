-- Numbers in arrays, equality, what expressions come to and where a set place leads; and that each call allows one answer.
pub mod Equal
pub mod Columns
pub mod Values
pub mod Records
pub mod Counting
pub mod Agrees
pub mod Unique
