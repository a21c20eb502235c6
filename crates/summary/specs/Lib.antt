pub mod Promise
pub mod Counts
