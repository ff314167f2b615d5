pub mod Fitting
pub mod Lengths
pub mod Subjects
pub mod Showing
pub mod Settling
pub mod Reported
