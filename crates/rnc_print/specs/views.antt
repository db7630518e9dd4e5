-- Views of types, and invariants.
pub mod Items
pub mod Prefixes
pub mod TreeNumbers
