pub mod Tables
pub mod Owners
pub mod Runs
pub mod Views
pub mod Exchanges
pub mod Additions
pub mod Back
