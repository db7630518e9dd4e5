-- S16 by an order of the definitions, and S17 by a table of depths, both without numbers.
pub mod PatternPoints
pub mod OrderAndRest
pub mod LoopsOrOrder
pub mod SortedDefinitions
pub mod TablesInOrder
pub mod Depths
pub mod TooDeep
