pub mod Seeds
pub mod Peel
pub mod Slice
pub mod Prepare
