pub mod Bytes
pub mod Parts
pub mod Frames
pub mod Records
