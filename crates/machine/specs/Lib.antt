pub mod Orders
pub mod Aim
pub mod Waits
pub mod Machine
