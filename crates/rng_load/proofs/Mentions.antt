-- S9: cycles of mentions, and how many paths of mentions a file has.
pub mod CountedPaths
pub mod CountMarks
mod DistinctLists
pub mod PathLists
pub mod PathVerdicts
