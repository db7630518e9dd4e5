-- Plain functions that the code is proved against, and private relations.
pub mod Pieces
pub mod Runs
pub mod Words
