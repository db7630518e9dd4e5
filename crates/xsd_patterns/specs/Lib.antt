pub mod Facet
pub mod views
