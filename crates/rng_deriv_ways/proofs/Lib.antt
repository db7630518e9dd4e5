pub mod WayLists
pub mod KeptRestrictions
mod NumberedWays
pub mod JoinedWays
pub mod AddedWays
pub mod PatternNodes
pub mod GrammarRows
pub mod WaysOfLeaves
pub mod WaysOfSides
mod IdleMembers
mod SideWeights
pub mod KnownRests
pub mod AttributeTakers
pub mod LikeAttributes
pub mod KnownPlans
pub mod KnownWays
mod ElementTakers
mod PatternsWithoutAttributes
pub mod ClosedTags
pub mod StartBodies
pub mod KnownDatatypes
mod FewerWays
mod Copies
mod FewerWaysLaws
mod LikeElements
mod LikeLeaves
