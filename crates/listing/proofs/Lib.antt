-- How long a listing is; what each way out of the call says; what the crates below give each other; that a listing says what the build
-- says; and that the call allows one answer.
pub mod Lengths
pub mod Calls
pub mod Listings
pub mod AsBuilt
pub mod Unique
