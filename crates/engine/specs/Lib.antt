pub mod States
pub mod Legal
pub mod Slot
pub mod Calls
pub mod Start
pub mod Said
