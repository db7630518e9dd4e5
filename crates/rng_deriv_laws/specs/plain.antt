-- Plain functions that the code is proved against, and private relations.
pub mod Blanks
pub mod Derivatives
pub mod Events
pub mod Laws
pub mod LevelEvents
pub mod LevelStates
pub mod Meanings
pub mod Reading
pub mod Restricted
pub mod States
pub mod Taking
pub mod Ways
