pub mod Record
pub mod Refusals
pub mod RoundTrip
pub mod Theorems
pub mod Vectors
pub mod Outcomes
