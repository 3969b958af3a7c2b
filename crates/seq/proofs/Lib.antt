pub mod Places
pub mod Words
pub mod SetBits
pub mod Bytes
pub mod Tests
pub mod Outcomes
pub mod OwnOutcomes
