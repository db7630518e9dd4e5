pub mod answers
pub mod printed
