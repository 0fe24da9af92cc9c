pub mod Rows
pub mod Place
pub mod Entry
pub mod Lists
