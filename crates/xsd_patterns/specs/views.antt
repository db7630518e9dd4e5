-- What values of the code stand for.
pub mod Faults
pub mod Patterns
pub mod Compiled
