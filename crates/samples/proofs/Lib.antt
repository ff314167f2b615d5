pub mod Tabled
pub mod Sampling
