-- What handles hold, and what calls on them return.
pub mod Calls
pub mod Events
pub mod Expected
pub mod Handles
pub mod Held
pub mod Options
pub mod Reasons
