-- What small steps make of a table, what tests say to the calls behind them, how a table grows, what calls keep, export in document
-- 01's own words, and that each public call allows one answer.
pub mod Tables
pub mod Calls
pub mod Growing
pub mod Kept
pub mod Words
pub mod Unique
