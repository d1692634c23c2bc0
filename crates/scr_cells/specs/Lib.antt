pub mod Block
pub mod Certified
pub mod Lines
pub mod Table
