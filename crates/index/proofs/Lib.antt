-- Laws of the index: one turn of its look-up, what an added edge changes, and that it answers as the edges do.
pub mod Laws
pub mod Agrees
pub mod Asking
pub mod Unique
