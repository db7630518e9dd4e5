-- Tables of rows, as the code has them, and the grammar that they make.
pub mod RowTrees
pub mod RowTable
pub mod RowIndex
pub mod RowReach
pub mod QueueMarks
pub mod RowCopies
pub mod GrammarElements
pub mod MadeGrammar
pub mod SimpleParts
pub mod SimpleRows
pub mod UsedPatterns
pub mod KnownPatterns
pub mod OneNumber
pub mod NestedCodes
pub mod RowLabels
pub mod ToldApart
