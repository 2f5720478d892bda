-- The definitions that the contracts of this crate cite.
pub mod Form
pub mod Statements
pub mod Says
pub mod Steps
