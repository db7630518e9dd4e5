-- The set `XmlSchema` of datatypes, and what depends on which set a schema is compiled with.
pub mod Names
pub mod Numbers
pub mod Facets
pub mod Limits
pub mod Integers
pub mod Types
pub mod UriCharacters
pub mod Uris
pub mod primitives
pub mod Datatypes
pub mod TypeSets
pub mod SchemasWith
