-- Laws of the form check, and of the statements of a tape for the crates above; and that each call allows one answer.
pub mod Stack
pub mod Faults
pub mod Reading
pub mod Sound
pub mod Loop
pub mod Statements
pub mod Numbers
pub mod Said
pub mod Mapped
pub mod Unique
