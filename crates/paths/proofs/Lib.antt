pub mod Indexes
pub mod Walks
pub mod Answers
pub mod Unique
pub mod Shortest
