-- Plain functions that the code is proved against, and private relations.
pub mod Cursors
pub mod CutSteps
pub mod DecodingSteps
pub mod Marks
