-- The simple form of a schema: a grammar, up to numbering, and the restrictions that it breaks.
pub mod NumberedSchema
pub mod PointSimples
pub mod SimpleTables
pub mod GrammarOf
pub mod SimpleBodies
pub mod SimpleFormParts
pub mod KnownDatatypes
mod RenamedRestrictions
pub mod SameRestrictions
