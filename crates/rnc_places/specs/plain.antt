-- The first fault of declarations and prefixes, found token by token.
pub mod BrokenDatatypes
pub mod DatatypeNumbers
pub mod FaultNumbers
