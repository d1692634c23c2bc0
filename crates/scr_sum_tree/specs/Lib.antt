pub mod Blocks
pub mod Readers
pub mod ChangedBlocks
pub mod Sums
