pub mod HexDigits
pub mod Base64Characters
