pub mod Script
pub mod Whole
pub mod Fair
pub mod Made
