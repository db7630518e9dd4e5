-- Plain functions that the code is proved against, and private relations.
pub mod ComponentNames
pub mod Counting
pub mod FoundGrammars
pub mod OpenComponents
pub mod OpenPatterns
pub mod PlainReading
pub mod SchemaPlaces
