pub mod views
pub mod plain
