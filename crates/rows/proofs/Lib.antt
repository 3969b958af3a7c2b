pub mod Idle
pub mod Points
pub mod Outcomes
