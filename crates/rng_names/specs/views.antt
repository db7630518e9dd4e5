-- Views of types, and invariants.
pub mod NameSets
pub mod Alternatives
pub mod PlainNames
pub mod GrammarClasses
pub mod KeyTables
pub mod Namespaces
pub mod ClassTables
pub mod PreparedClasses
