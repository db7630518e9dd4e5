-- Plain functions that the code is proved against, and private relations.
pub mod Broken
pub mod Facts
pub mod FactsOver
pub mod Kinds
pub mod NamesMeetReach
