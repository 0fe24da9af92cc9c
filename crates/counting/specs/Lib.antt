pub mod Counting
pub mod Rows
pub mod Numbers
pub mod Orders
pub mod Draws
pub mod Places
pub mod Enough
pub mod Table
