-- What can be printed: a simple form whose components are well spelled and whose datatypes are known.
pub mod NamedDatatypes
mod PrintableExample
pub mod PrintableClasses
pub mod PrintableTrees
pub mod PrintableForms
