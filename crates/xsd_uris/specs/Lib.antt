pub mod plain
pub mod views
