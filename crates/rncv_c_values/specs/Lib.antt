pub mod views
