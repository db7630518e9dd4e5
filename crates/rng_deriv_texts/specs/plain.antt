-- Plain functions that the code is proved against, and private relations.
pub mod After
pub mod Asking
pub mod Excepts
pub mod Settling
pub mod ValueWays
