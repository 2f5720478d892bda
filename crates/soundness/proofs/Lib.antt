-- Chains to the root, what the test of a table keeps and says, and that the public call allows one answer.
pub mod Chains
pub mod Rooted
pub mod Sound
pub mod Nodes
pub mod Unique
