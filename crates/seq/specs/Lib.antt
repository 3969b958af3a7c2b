pub mod Places
pub mod Words
pub mod Bytes
pub mod Outcomes
