pub mod Adding
pub mod Digits
