pub mod Stages
pub mod Promise
