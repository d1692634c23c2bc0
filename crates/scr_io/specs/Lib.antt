pub mod Cause
pub mod Content
pub mod Front
pub mod MemShelf
pub mod MemSink
pub mod Memory
pub mod Reading
