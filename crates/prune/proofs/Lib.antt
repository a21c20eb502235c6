pub mod Tables
pub mod Walks
pub mod Along
pub mod Ties
pub mod Steps
pub mod Goes
pub mod Rounds
pub mod Core
