pub mod InPlace
pub mod Sums
