-- The text of a simple grammar.
pub mod Items
pub mod NumberingSteps
pub mod PrintedText
pub mod Printing
pub mod SchemaText
pub mod Words
