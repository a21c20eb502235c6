pub mod Digits
pub mod Store
pub mod Zip
pub mod Sizes
pub mod Unique
