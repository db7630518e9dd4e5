-- Views of types, and invariants.
pub mod ComponentTable
pub mod Definitions
pub mod ExpansionOrder
pub mod GraphView
pub mod GrammarElements
pub mod GrammarTables
pub mod Joining
pub mod RowIndex
pub mod RowTable
pub mod Rows
pub mod SchemaFaults
