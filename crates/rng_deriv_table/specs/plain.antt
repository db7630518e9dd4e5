-- Plain functions that the code is proved against, and private relations.
pub mod AskedFor
pub mod Copies
pub mod DeepParts
pub mod Facts
pub mod Kept
pub mod Reduced
pub mod Selecting
