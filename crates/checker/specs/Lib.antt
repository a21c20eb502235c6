pub mod Contract
pub mod Promise
pub mod Answer
