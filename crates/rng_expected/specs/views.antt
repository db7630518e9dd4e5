-- Views of types, and invariants.
pub mod Next
