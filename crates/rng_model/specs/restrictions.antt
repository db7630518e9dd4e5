-- Clauses 18 to 27.
pub mod Restrictions
pub mod Contents
pub mod RestrictionFaults
