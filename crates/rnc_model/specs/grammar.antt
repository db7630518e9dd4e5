-- The productions of the compact syntax.
pub mod Grammar
pub mod NameClasses
pub mod Sentence
pub mod Syntax
pub mod SyntaxTrees
