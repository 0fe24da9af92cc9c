pub mod Bits
pub mod Draws
