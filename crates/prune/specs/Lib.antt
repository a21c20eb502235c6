pub mod Chain
pub mod Trim
pub mod Cursor
pub mod Prune
