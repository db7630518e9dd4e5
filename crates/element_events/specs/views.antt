-- What the values of the code are.
pub mod Told
pub mod Kept
pub mod Known
