pub mod Pastes
pub mod Messages
pub mod Parts
pub mod Counted
