-- Plain functions that the code is proved against.
pub mod Bodies
pub mod First
