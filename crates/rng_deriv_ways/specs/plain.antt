-- Plain functions that the code is proved against, and private relations.
pub mod Alike
pub mod Closing
pub mod FewerWays
pub mod Idle
pub mod Kinds
pub mod Starting
pub mod Takers
pub mod Ways
