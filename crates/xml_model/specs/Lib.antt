pub mod characters
pub mod declarations
pub mod documents
