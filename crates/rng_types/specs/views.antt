-- Views of types, and invariants.
pub mod Fault
pub mod Finding
pub mod View
