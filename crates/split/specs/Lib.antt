pub mod State
pub mod Split
pub mod Chain
