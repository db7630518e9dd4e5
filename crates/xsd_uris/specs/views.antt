pub mod PassedColons
