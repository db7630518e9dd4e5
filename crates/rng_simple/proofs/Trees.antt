-- The simple form of a tree: each has exactly one, and the function returns it.
pub mod TreeSplits
pub mod SimpleClass
pub mod InTwos
pub mod StepSimpleOf
pub mod ReachedValues
pub mod NoStep
pub mod NormalValues
pub mod SimpleForms
