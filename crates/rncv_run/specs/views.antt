-- Views of types, and invariants.
pub mod AnswerView
pub mod DocumentInput
