mod Examples
pub mod CalendarLaws
pub mod ZoneLaws
pub mod OneDecimal
pub mod CanonicalDecimals
pub mod DigitLaws
pub mod SameValues
pub mod OrderLaws
pub mod Base64Grammar
pub mod Base64Spaces
