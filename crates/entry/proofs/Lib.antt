pub mod Outcome
pub mod Returned
pub mod Unique
pub mod Plain
