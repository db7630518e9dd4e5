-- Plain functions that the code is proved against, and private relations.
pub mod Holding
pub mod Written
pub mod Keys
pub mod WrittenNames
pub mod Regions
pub mod SharedKeys
pub mod EitherWay
