-- The checker accepts exactly what demand 3 asks; every finished build is accepted, and its count is the least; and with which numbers a
-- check is refused.
pub mod Painted
pub mod Drawing
pub mod Pages
pub mod Compared
pub mod Right
pub mod Exact
pub mod Spreads
pub mod Accepted
pub mod Told
