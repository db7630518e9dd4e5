-- The characters of a document, and what all productions are made of.
pub mod Encodings
pub mod Productions
