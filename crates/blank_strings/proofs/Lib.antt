pub mod WellFormed
pub mod Derivatives
pub mod Events
pub mod Trees
pub mod Fronts
pub mod Laws
mod Examples
