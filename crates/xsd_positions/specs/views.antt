-- What values of the code stand for.
pub mod Positions
pub mod Drafts
