pub mod Depots
pub mod Outcomes
pub mod Gates
pub mod Samples
pub mod Traces
