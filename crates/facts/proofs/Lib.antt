pub mod Marks
pub mod Facts
