-- Plain functions that the code is proved against, and private relations.
pub mod Combinators
pub mod Productions
pub mod ComponentParts
pub mod Reading
pub mod DataParts
