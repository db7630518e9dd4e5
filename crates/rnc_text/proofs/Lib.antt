pub mod TestFacts
mod Characters
mod HexadecimalSteps
mod Held
mod Escapes
mod FrontCharacter
mod OneDecoding
mod PlainRuns
mod FilePlaces
mod CharacterClasses
mod QuoteRuns
pub mod Cursors
mod ScanResults
mod FoundPieces
mod LongestPiece
mod OneCut
pub mod MarksCut
pub mod MarksDecoded
pub mod MarkScalars
mod AsciiRuns
