-- Texts, values and datatypes.
pub mod DatatypeViews
pub mod Datatypes
pub mod Facets
pub mod Texts
