pub mod Families
pub mod Numbers
pub mod Steps
pub mod Records
pub mod Order
pub mod Places
pub mod Gathered
pub mod SourceNumbers
