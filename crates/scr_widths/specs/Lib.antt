pub mod Choices
pub mod Scales
pub mod Widths
