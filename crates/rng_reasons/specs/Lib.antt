pub mod AllowedPatterns
pub mod NamedAttributes
pub mod Reasons
pub mod TagFaults
pub mod TagOptions
pub mod TagReasons
pub mod views
