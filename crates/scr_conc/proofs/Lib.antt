pub mod Table
pub mod Squares
pub mod Scales
