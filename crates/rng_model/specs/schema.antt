-- Schemas as they are written: places, components, unfolding, clauses 11 to 17.
pub mod Patterns
pub mod Schema
pub mod SchemaClauses
pub mod Unfolding
