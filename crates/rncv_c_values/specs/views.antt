-- What is passed to C and taken from it.
pub mod Attributes
pub mod Codes
pub mod Datatypes
pub mod Files
pub mod Mentions
pub mod Reasons
pub mod Texts
pub mod Told
