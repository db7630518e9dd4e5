pub mod Bounds
pub mod Runs
pub mod Views
