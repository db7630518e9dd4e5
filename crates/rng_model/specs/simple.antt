-- Trees, rewriting steps, simple grammars.
pub mod Grammar
pub mod Leaves
pub mod SchemaForm
pub mod Simplification
pub mod SimplifiedSchema
pub mod Table
pub mod TableRules
pub mod Tree
