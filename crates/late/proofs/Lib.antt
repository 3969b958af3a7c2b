pub mod Dropped
pub mod Counts
pub mod Points
pub mod Outcomes
