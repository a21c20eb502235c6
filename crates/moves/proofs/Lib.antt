pub mod Parts
pub mod Scanning
pub mod Painting
