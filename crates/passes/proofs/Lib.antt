-- Laws of what records say and of the walks over a tape; what settles, and which readings come to the same; and that each public call
-- allows one answer.
pub mod Records
pub mod Counting
pub mod Passing
pub mod First
pub mod Settles
pub mod Repeating
pub mod Agrees
pub mod Unique
