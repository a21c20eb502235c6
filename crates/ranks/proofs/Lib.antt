pub mod Counting
pub mod Leads
pub mod Peeling
pub mod Settling
pub mod Scanning
pub mod Taking
pub mod Freeing
