pub mod DoubleColons
pub mod TrimmedTexts
pub mod UriShapes
