-- Files in load order: which are handed in and taken, and that the order is unique.
pub mod NameSets
pub mod HandedIn
pub mod TakenFiles
pub mod ReadInOrder
pub mod ClosedFiles
