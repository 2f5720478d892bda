-- Laws of the names of a tape: one record, the whole tape; what the definitions promise each other; and that the call allows one answer.
pub mod Records
pub mod Nesting
pub mod Tables
pub mod Standing
pub mod Filling
pub mod Resolving
pub mod Calls
pub mod Kept
pub mod Numbers
pub mod Unique
