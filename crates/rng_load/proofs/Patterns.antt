-- Patterns and components, read plainly and by the definition.
pub mod PlainReading
pub mod ReadMentioned
pub mod OpenPatterns
pub mod GatheredParts
pub mod OpenComponents
pub mod GatherIncluded
pub mod OverriddenComponents
