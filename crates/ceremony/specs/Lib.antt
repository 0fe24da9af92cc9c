pub mod Model
pub mod Steps
pub mod Draws
pub mod Reports
