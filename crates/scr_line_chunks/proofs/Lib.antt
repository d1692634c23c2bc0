pub mod Closed
pub mod Marks
pub mod Records
