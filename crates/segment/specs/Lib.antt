pub mod Segment
pub mod Says
