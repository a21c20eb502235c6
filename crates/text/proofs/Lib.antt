pub mod Tables
pub mod Head
pub mod Edges
pub mod Reading
pub mod Answers
pub mod Unique
