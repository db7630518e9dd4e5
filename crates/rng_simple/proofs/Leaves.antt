-- Leaves of simple forms: renamed, kept, and reached.
pub mod Renamed
pub mod RenamedTwice
pub mod RenamedLeaves
pub mod KeptLeaves
pub mod SimpleLeaves
