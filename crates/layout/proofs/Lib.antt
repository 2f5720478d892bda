-- What settling answers, what a layout answers, and that its call allows one answer.
pub mod Settling
pub mod Layouts
pub mod Unique
