mod Matchers
pub mod JoinedStarts
mod ServedTables
mod NamesOfOneKey
mod KeptStarts
mod PatternRenewal
mod FollowingEvents
mod FailedReasons
mod BoxedLearning
mod GrownTables
