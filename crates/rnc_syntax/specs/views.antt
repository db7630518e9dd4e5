-- Views of types, and invariants.
pub mod Fault
pub mod SentenceFaults
pub mod SyntaxView
