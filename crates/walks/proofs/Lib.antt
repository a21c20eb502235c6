pub mod Moves
pub mod Calls
pub mod Again
pub mod Lent
pub mod Own
