-- The laws of the query and of query_all, and that each public call allows one answer.
pub mod Laws
pub mod All
pub mod Unique
