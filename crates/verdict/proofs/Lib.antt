-- That what is written lies in the image; and that the call allows one answer.
pub mod Judging
pub mod Unique
