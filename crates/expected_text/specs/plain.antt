-- Plain functions, for proofs.
pub mod Fields
pub mod Parts
