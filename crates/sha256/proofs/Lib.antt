mod Blocks
mod Tail
mod Pieces
mod Steps
mod Calls
pub mod Laws
