-- Plain functions, for proofs.
pub mod Leaves
pub mod Nexts
pub mod TagLeaves
