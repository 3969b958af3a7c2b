pub mod Fit
pub mod Counted
pub mod Vectors
pub mod Outcomes
