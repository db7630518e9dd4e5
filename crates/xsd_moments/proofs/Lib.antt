pub mod CalendarBounds
pub mod Digits
pub mod FrontRuns
pub mod ZoneRuns
