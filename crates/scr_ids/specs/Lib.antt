pub mod Ranges
pub mod Moves
pub mod Steps
pub mod Kept
