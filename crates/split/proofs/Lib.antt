pub mod Same
pub mod Naming
pub mod Splitting
pub mod Rings
