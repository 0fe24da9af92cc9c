pub mod NoDraws
pub mod Rooms
pub mod Runs
pub mod Reports
