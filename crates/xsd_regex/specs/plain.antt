-- Plain functions that the code is proved against.
pub mod FormSteps
pub mod StateTable
pub mod SetTable
pub mod Groups
pub mod PropertyParts
pub mod KeptSteps
pub mod Positions
