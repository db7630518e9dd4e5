-- Views of types, and invariants.
pub mod Gathered
pub mod OverridingNames
