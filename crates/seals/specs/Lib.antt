pub mod Seal
pub mod Records
pub mod Steps
pub mod Taken
