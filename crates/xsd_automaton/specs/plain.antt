-- Plain functions that the code is proved against.
pub mod BegunChars
pub mod Closures
pub mod PastAscii
pub mod ReadParts
pub mod Sets
