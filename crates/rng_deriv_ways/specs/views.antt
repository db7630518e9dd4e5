-- Views of types, and invariants.
pub mod Datatypes
pub mod KnownRests
pub mod KnownWays
pub mod Plans
