-- Views of types, and invariants.
pub mod NamesMeetHeads
pub mod NamesMeetLabels
pub mod NamesMeetRows
pub mod NamesMeetSearch
pub mod NamesMeetSides
