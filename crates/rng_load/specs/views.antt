-- Views of types, and invariants.
pub mod FileFaults
pub mod FileVerdicts
pub mod FilesView
pub mod GatheredComponents
pub mod GrammarParts
pub mod Loaded
pub mod LoadingFaults
pub mod PatternRows
pub mod PendingGrammars
pub mod PlacedGrammars
pub mod ReadPatterns
