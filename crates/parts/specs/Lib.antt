pub mod Share
pub mod Divide
