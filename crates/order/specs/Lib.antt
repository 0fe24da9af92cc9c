pub mod Orders
pub mod Drawings
pub mod Laws
