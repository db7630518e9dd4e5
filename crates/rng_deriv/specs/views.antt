-- Views of types, and invariants.
pub mod Alternatives
pub mod Followers
pub mod KeptEvents
pub mod Matchers
pub mod PatternRenewal
pub mod Serving
pub mod Starts
