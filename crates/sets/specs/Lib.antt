pub mod Changes
pub mod Sizes
