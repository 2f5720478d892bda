-- Demand 3, and the theorems about builder and checker.
pub mod Demand
pub mod Theorems
