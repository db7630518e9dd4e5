-- Plain functions that the code is proved against, and private relations.
pub mod LinesSyntax
pub mod LinesTree
pub mod MarkLexemes
pub mod Printable
pub mod PrintedMarks
pub mod WellSpelledFiles
pub mod WellSpelledSchemas
pub mod HandedIn
pub mod LinesSchema
