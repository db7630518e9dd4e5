-- Views of types, and invariants.
pub mod LevelTable
pub mod Basis
pub mod FailedEvents
pub mod Innermost
pub mod Inputs
pub mod KeptLevels
pub mod Levels
pub mod LevelsLeft
pub mod Marks
pub mod NextEnds
pub mod Numbers
pub mod OpenPositions
pub mod Positions
pub mod LevelRenewal
pub mod States
pub mod Strings
