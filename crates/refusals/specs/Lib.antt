pub mod Numbered
pub mod Answers
