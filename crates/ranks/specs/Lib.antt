pub mod Ranks
pub mod Peel
