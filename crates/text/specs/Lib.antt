pub mod Market
pub mod Steps
pub mod Promise
