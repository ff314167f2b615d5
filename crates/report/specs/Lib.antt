pub mod Lines
pub mod Earliest
