-- Views of types.
pub mod Limits
