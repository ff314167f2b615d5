pub mod Events
pub mod Before
pub mod Rules
pub mod Clocks
pub mod Tables
pub mod Growth
