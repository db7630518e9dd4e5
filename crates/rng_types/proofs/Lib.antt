pub mod OnePiece
pub mod CollapsedBytes
pub mod TextValues
pub mod WordsOfTexts
pub mod Decimals
mod Finding
pub mod FoundDatatypes
