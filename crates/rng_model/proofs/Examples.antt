-- Examples of what the definitions say.
pub mod Schemas
pub mod Clauses
pub mod GoodSchema
pub mod SimpleForms
pub mod Pyx
pub mod PyxFront
pub mod PyxHeld
pub mod Restrictions
pub mod Datatypes
pub mod XsdDatatypes
