-- Its tokens.
pub mod Cut
pub mod CutTokens
pub mod Tokens
