-- Laws of a try, of what it writes and how long that is, of the walk over a tape, of the range and the image outside it; that readings
-- which agree try alike; and that the call allows one answer.
pub mod Lengths
pub mod Passed
pub mod Advancing
pub mod Walking
pub mod Numbers
pub mod Writing
pub mod Keeping
pub mod Zero
pub mod Sound
pub mod Agrees
pub mod Unique
