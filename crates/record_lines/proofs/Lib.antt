-- The line of a record; how long lines are; the walk that puts a line for each record; what is put behind the tries; and that the public
-- call allows one answer.
pub mod Shown
pub mod Lengths
pub mod Records
pub mod Walking
pub mod Filled
pub mod Unique
