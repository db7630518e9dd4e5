mod ListTests
mod KnownDatatypes
mod NamesByPlace
mod NameSets
mod NameClassTests
mod WrittenPatterns
mod BrokenRows
mod CombinedNames
mod WrittenInGrammars
mod AllPlaces
mod BrokenPlaces
mod LeastClause
pub mod KeptDatatypes
