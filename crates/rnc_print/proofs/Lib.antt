pub mod FailedTests
pub mod SameTests
pub mod Numberings
pub mod CarriedNumberings
pub mod OneText
pub mod SameText
pub mod WorkedTexts
pub mod ListLookups
pub mod Literals
pub mod Namespaces
pub mod ItemTables
mod PatternCodes
mod TreeNumbers
pub mod ItemNumbers
pub mod ItemLines
pub mod ClassTexts
pub mod LineTexts
pub mod TreeShapes
pub mod NamedElements
pub mod OneForm
pub mod SameNumberings
