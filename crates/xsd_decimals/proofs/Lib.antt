pub mod ComparedDigits
pub mod Zeros
pub mod PartsOfTexts
pub mod Magnitudes
pub mod Signs
pub mod NumberRuns
