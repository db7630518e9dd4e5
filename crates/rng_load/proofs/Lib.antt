pub mod NameLists
pub mod FileContent
pub mod FilesVerdict
mod LoadedFiles
pub mod LoadOrder
pub mod Mentions
pub mod Overriding
pub mod Patterns
pub mod Places
pub mod Examples
