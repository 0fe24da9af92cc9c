pub mod Slots
pub mod Index
pub mod Halving
