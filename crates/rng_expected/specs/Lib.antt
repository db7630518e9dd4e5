pub mod AttributeValues
pub mod Expectations
pub mod Laws
pub mod Tags
pub mod plain
pub mod views
