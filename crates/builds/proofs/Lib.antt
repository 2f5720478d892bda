-- A build by its notes; what a finished build has, and with which numbers one is refused.
pub mod Builds
pub mod Names
pub mod Kept
pub mod Agrees
pub mod Refusals
