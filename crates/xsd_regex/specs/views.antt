-- What values of the code stand for.
pub mod Classes
pub mod Symbols
pub mod Rows
pub mod Readings
pub mod Steps
