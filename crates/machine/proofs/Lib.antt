pub mod Orders
pub mod Round
pub mod Waiting
pub mod Aiming
pub mod Cutting
