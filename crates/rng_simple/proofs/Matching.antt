-- What trees match, before and after simplification.
pub mod NestedNames
pub mod ThreeParts
pub mod StepLex
pub mod StepMatches
pub mod CorrespondingTrees
pub mod Rereading
pub mod WrittenMatches
pub mod SchemaDocuments
