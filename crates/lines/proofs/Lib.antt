pub mod Split
pub mod Words
pub mod Rows
pub mod Unique
