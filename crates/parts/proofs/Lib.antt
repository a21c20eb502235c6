pub mod Sharing
pub mod Handing
pub mod Dividing
