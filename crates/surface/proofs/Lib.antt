pub mod Unique
pub mod Engines
