-- What values of the code are, without their place in memory.
pub mod Matchers
pub mod States
pub mod Trees
pub mod Ways
