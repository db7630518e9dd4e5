pub mod HexPairs
pub mod NoBlanks
pub mod Base64Groups
pub mod Base64Values
