-- Regular expressions of XML Schema, and the facet `pattern`.
pub mod Expressions
pub mod Blocks
pub mod Properties
pub mod Symbols
pub mod ExpressionGrammar
pub mod Sizes
pub mod plain
pub mod Patterns
