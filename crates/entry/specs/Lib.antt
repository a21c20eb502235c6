pub mod LabelText
pub mod Steps
