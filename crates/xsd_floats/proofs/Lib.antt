pub mod OddParts
pub mod Comparisons
pub mod WrittenNumbers
