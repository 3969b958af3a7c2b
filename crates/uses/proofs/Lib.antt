pub mod Chosen
pub mod Outcomes
pub mod Numbers
