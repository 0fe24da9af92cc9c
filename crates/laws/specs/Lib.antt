pub mod Taken
pub mod Sound
pub mod Laws
