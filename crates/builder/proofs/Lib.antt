-- What the calls below answer, put together; what the test of the arguments tells; and that the call allows one answer.
pub mod Builds
pub mod Arguments
pub mod Unique
