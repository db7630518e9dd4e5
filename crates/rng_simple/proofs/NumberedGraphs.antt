-- Graphs of numbers, what they say of their schema, and the search in them.
pub mod DefinitionNumbers
pub mod Graphs
pub mod GraphTables
pub mod JudgedByNumbers
pub mod Adjacency
pub mod Mentioned
pub mod TableEntries
pub mod Orders
pub mod MemberDepths
pub mod DepthTable
pub mod DepthFirstSearch
pub mod SearchSteps
pub mod ExpansionOrder
