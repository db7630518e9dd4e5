-- Views of types, and invariants.
pub mod Answers
pub mod Held
