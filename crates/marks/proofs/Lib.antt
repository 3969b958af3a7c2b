pub mod Down
pub mod Points
pub mod Outcomes
