pub mod Coursing
pub mod Driving
pub mod Accepting
pub mod Starting
pub mod Promising
pub mod Unique
pub mod Order
pub mod Done
