pub mod ExpectationText
pub mod plain
