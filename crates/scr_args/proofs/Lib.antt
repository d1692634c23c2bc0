pub mod Matched
pub mod Steps
pub mod Spelling
pub mod Workers
