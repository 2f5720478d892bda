-- What a number puts, digit by digit, and how many digits it has; and that each public call allows one answer.
pub mod Digits
pub mod Unique
