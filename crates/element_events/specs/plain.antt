-- The plain functions of the code, one call after another.
pub mod AsciiChars
pub mod Calls
