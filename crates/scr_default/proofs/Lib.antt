pub mod AddedUp
pub mod CoefficientTable
pub mod Parts
pub mod Enclosed
pub mod Band
pub mod Roots
pub mod Alike
pub mod Widths
