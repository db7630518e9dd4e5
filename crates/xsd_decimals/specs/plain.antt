-- Plain functions that the code is proved against, and private relations.
pub mod Numbers
pub mod Parts
