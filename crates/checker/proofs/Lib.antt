-- What the crates below give each other; with which numbers a check is refused; and that the call allows one answer.
pub mod Checks
pub mod Refusals
pub mod Unique
