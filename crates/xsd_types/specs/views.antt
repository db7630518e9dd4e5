-- Views of types, and what a search returns.
pub mod Numbers
pub mod Ordered
pub mod Octets
pub mod View
pub mod Finding
pub mod Kinds
