-- Views of types, and invariants.
pub mod Choices
pub mod Node
pub mod Options
pub mod PatternTable
pub mod Skips
pub mod Taking
pub mod Trees
