pub mod Widths
pub mod Numbers
pub mod Bits
pub mod Reading
pub mod Draws
pub mod Places
