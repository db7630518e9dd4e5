-- The printed text of a printable grammar is read back.
pub mod NumberedNames
mod LineSentences
mod LineNesting
mod ResolvedPrefixes
mod LineDeclarations
mod LineConditions
mod ReadMarks
pub mod FewItems
pub mod ReadsBack
