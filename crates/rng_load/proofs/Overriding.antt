-- S10: the names of grammars, and includes that override what is not there.
pub mod MentionedNames
pub mod GatheredNames
pub mod BrokenIncludes
