pub mod Answers
pub mod views
