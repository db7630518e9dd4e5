pub mod FrontRuns
pub mod Numerals
pub mod Fractions
pub mod Steps
pub mod AllMonths
