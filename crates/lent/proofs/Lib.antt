pub mod Thin
pub mod ThinCall
pub mod Outcomes
