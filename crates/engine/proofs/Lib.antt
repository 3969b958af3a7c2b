pub mod Legality
pub mod Ran
pub mod Outcomes
pub mod Numbers
