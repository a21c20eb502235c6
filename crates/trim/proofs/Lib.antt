pub mod Whole
pub mod Unique
pub mod Left
