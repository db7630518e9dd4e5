-- The characters of a file.
pub mod BrokenTexts
pub mod Decoding
pub mod FilePlaces
