-- Building the graph of a schema.
pub mod GrowingGraphs
pub mod ResolvedMembers
pub mod WholePatterns
pub mod ResolvedRows
pub mod ResolvedPatterns
pub mod ResolvedBodies
pub mod ElementsApart
pub mod ComponentTables
pub mod GraphSteps
pub mod ReadySchemas
pub mod SchemaGraphs
