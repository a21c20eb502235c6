pub mod Decimal
pub mod Bytes
pub mod Outcome
pub mod Unique
