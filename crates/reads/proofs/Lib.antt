-- How many names a tape has; that both ways to read its expressions, by the notes and by the table, agree; and that they are computed.
pub mod Names
pub mod Reading
pub mod Numbers
