-- What is laid, what is left to lay, runs that are compared, and that each public call allows one answer.
pub mod Laying
pub mod Rests
pub mod Unique
