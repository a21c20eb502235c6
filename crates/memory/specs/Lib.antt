pub mod Memory
pub mod Decomposer
pub mod Writer
