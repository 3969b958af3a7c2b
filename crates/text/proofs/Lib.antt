pub mod Numbers
pub mod Laid
pub mod Outcomes
