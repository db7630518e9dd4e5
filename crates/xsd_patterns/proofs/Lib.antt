pub mod Taken
pub mod Collected
