pub mod Running
pub mod Turns
pub mod Promise
pub mod Accept
pub mod Begin
pub mod Finish
pub mod Plain
