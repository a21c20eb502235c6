pub mod Product
pub mod Members
pub mod Places
pub mod Unique
