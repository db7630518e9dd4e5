-- Mentions, load order, clauses 1 to 10.
pub mod FaultPlaces
pub mod DatatypePlaces
pub mod FileGrammars
pub mod FileVerdicts
pub mod LoadedSchema
pub mod Loading
pub mod Mentions
pub mod Places
pub mod SchemaFile
