pub mod Methods
pub mod Alike
pub mod Taking
pub mod Sweeping
pub mod Marking
pub mod Drawing
pub mod ByKind
pub mod Choice
