-- Plain functions that the code is proved against, and private relations.
pub mod Lines
pub mod Literals
pub mod Parts
pub mod PatternCodes
pub mod Renumbered
