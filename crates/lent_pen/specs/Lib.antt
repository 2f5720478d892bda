pub mod Two
pub mod Steps
