-- Plain functions that the code is proved against, and private relations.
pub mod Answers
pub mod BlankRuns
pub mod ClassesApart
pub mod NamedTypes
pub mod OneDecimal
pub mod PlaceHashes
pub mod TextHashes
pub mod WellFormed
pub mod WellPlaced
