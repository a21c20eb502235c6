pub mod Inside
pub mod Classing
pub mod Unique
