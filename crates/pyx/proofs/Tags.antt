-- Start tags: their names, declarations and attributes.
pub mod Declarations
pub mod Namespaces
pub mod Repeats
pub mod Slots
pub mod Parts
pub mod Answers
pub mod Unique
pub mod Exact
pub mod ExpandedAttributes
pub mod BareTags
