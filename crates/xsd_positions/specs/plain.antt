-- Plain functions that the code is proved against.
pub mod WrittenOut
pub mod Trees
pub mod TreeRows
pub mod Folds
pub mod Drafts
pub mod Links
pub mod Places
