pub mod Verdicts
pub mod WellFormed
pub mod Theorems
pub mod Vectors
pub mod Outcomes
