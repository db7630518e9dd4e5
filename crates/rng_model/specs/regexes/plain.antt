-- Plain functions that say what the relations say.
pub mod LinearForms
pub mod Spelling
pub mod Held
pub mod ClassSteps
pub mod Machine
pub mod Postfix
pub mod Decided
