pub mod Record
pub mod Refusals
pub mod Theorems
