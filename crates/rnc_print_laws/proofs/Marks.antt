-- What is printed, mark by mark: in bytes, and in Unicode numbers.
pub mod EncodedMarks
mod EscapedCharacters
pub mod Colons
pub mod SpelledMarks
pub mod MarksText
