pub mod Pasted
pub mod Places
pub mod Passed
pub mod Kept
pub mod Turned
pub mod Rows
pub mod Summed
