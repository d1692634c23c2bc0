pub mod Rows
pub mod Elements
pub mod Drawing
