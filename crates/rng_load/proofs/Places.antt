-- Grammars at their places: files have one schema at most, and the reader finds it.
pub mod OneSchema
pub mod PlacesApart
mod OneGrammar
pub mod GrammarLookup
mod FoundGrammars
pub mod PlacesListed
pub mod WellPlaced
pub mod ReaderEnds
