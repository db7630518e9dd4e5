-- The document type: what is declared, the values of literals, markup declarations, and the internal subset.
pub mod Declared
pub mod Literals
pub mod MarkupDeclarations
pub mod DocumentTypes
