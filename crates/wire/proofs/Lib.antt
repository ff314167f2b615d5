pub mod Reading
pub mod Words
pub mod OneWay
pub mod InTurn
pub mod Framing
pub mod Recorded
