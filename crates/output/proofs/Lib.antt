pub mod Puts
pub mod Writing
pub mod Hexes
