-- A document is read exactly if it is one, and a fault is the first.
pub mod Ends
pub mod Complete
pub mod Sound
pub mod Broken
pub mod Least
