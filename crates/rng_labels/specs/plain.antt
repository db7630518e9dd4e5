-- Plain functions that the code is proved against, and private relations.
pub mod LabelCodes
pub mod Queues
