pub mod Files
pub mod Passages
