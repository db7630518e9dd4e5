mod Examples
mod RunExamples
pub mod OneOf
pub mod Nullable
pub mod LinearForms
pub mod FormSteps
pub mod Runs
pub mod StateTable
pub mod TableRows
pub mod SetTable
pub mod StepLoop
pub mod NumberedWork
pub mod GrowingTable
pub mod Groups
pub mod Properties
pub mod Spelled
pub mod CompleteClasses
pub mod CompleteExpressions
pub mod SymbolSteps
pub mod SoundClasses
pub mod ReadSymbols
pub mod SoundSteps
pub mod KeptRows
pub mod SoundExpressions
pub mod Regexes
pub mod Progress
pub mod ReadRows
pub mod Decided
