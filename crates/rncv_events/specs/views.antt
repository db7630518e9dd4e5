-- What the values of the code are.
pub mod Documents
pub mod Ending
pub mod Leading
pub mod Settled
pub mod Told
