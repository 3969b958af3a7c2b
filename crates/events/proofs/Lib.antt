pub mod Run
pub mod Vectors
pub mod Outcomes
