pub mod Verdicts
pub mod Form
pub mod WellFormed
pub mod Refusals
pub mod Theorems
pub mod Formed
