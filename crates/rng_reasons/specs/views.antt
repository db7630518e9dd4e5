-- What the values of the code are.
pub mod Left
pub mod Options
