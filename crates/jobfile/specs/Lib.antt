pub mod Forms
pub mod Table
pub mod Fields
pub mod Jobs
