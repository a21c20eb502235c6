pub mod Classes
pub mod Search
