-- What contracts see of the types of the code.
pub mod Classes
pub mod Reached
pub mod Sets
pub mod Automaton
pub mod WhiteSpace
