-- The marked cases hold.
pub mod Marked
