pub mod Splits
pub mod Digits
pub mod Spelling
pub mod Heights
pub mod Sayings
