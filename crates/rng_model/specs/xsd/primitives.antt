-- The primitive types whose values are no texts (XML Schema Part 2, Second Edition, sections 3.2.3 to 3.2.16).
pub mod Decimals
pub mod Floats
pub mod Octets
pub mod Calendar
pub mod Fronts
pub mod Zones
pub mod Moments
pub mod Durations
pub mod Values
pub mod Types
