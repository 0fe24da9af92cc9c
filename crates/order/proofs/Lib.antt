pub mod Names
pub mod Turns
pub mod Moves
pub mod Numbering
pub mod Rests
pub mod Slices
pub mod Once
pub mod Used
