pub mod characters
pub mod declarations
pub mod grammar
pub mod loading
pub mod tokens
