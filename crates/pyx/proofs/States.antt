-- One line in each state of a document, and the state after lines.
pub mod StateSteps
pub mod LineCases
pub mod OpenTags
pub mod JoinedText
pub mod StateAfterLines
pub mod JudgedNames
pub mod TextInPlace
