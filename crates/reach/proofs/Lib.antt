pub mod Unique
pub mod Between
pub mod Starts
pub mod Result
pub mod Direction
pub mod Outcome
pub mod Computed
pub mod Chains
