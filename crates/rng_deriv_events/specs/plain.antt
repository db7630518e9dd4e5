--
pub mod Bits
