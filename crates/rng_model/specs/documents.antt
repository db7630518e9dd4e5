-- Documents in PYX: lines, clauses P1 to P13, events, held bytes.
pub mod Documents
pub mod Lines
pub mod PyxClauses
pub mod PyxHeld
pub mod PyxLines
pub mod PyxNamespaces
pub mod PyxTrees
pub mod EventViews
pub mod ElementTrees
pub mod Telling
