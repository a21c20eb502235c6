pub mod Taken
pub mod Sweep
pub mod Drawn
pub mod Kind
pub mod Methods
