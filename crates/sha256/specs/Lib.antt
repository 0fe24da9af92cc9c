pub mod Words
pub mod Constants
pub mod Rounds
pub mod Schedule
pub mod Padding
pub mod Sha256
pub mod Absorbed
pub mod Theorems
