pub mod Output
pub mod Writes
pub mod Hex
pub mod Laws
