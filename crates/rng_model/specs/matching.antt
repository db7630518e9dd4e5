-- Documents as trees, and which of them match.
pub mod Document
pub mod GrammarMatching
pub mod Matching
pub mod Outcomes
pub mod SchemaMatching
