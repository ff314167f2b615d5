pub mod Words
pub mod Commands
pub mod Behind
pub mod Faults
