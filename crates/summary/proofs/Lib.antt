pub mod Counting
pub mod Outcome
pub mod Unique
