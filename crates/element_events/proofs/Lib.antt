pub mod Walks
pub mod Trees
pub mod Sent
pub mod Taken
pub mod DistinctNames
pub mod Passed
pub mod Kept
pub mod AsciiChars
