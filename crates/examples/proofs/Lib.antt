pub mod Boards
pub mod Worked
pub mod Sampling
