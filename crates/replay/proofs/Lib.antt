-- Why the calls keep their promises.
pub mod Pushing
