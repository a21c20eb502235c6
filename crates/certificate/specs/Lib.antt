pub mod Entries
pub mod Offer
pub mod Work
pub mod Promise
pub mod Columns
