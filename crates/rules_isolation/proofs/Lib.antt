-- The proof of demand 3, and its examples.
pub mod Demand
pub mod Examples
