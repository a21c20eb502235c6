pub mod Marking
pub mod Walking
pub mod Steps
pub mod Peeling
pub mod Settling
pub mod Draining
pub mod Cutting
pub mod Slicing
