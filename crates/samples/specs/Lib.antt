pub mod Rows
pub mod Sample
