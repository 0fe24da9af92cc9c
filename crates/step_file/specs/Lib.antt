pub mod Kinds
pub mod Reading
pub mod File
pub mod Walk
pub mod Laws
