pub mod plain
