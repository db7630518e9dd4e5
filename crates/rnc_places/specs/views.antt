-- What a file mentions, what is reported for its tokens, and prefixes.
pub mod DatatypeUses
pub mod Mentions
pub mod Prefixes
pub mod Told
