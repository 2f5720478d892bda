-- What a build is, and with which numbers one is refused. The contracts of the crates above cite these.
pub mod Build
pub mod Refusals
