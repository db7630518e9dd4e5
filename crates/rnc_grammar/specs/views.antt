-- Views of types, and invariants.
pub mod Fault
pub mod ParsingFaults
pub mod Resolved
pub mod View
