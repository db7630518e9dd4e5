-- Worked cases: small schemas of a few files, their grammars at their places, and their paths of mentions.
pub mod Places
pub mod Paths
