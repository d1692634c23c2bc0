pub mod Exchanges
pub mod Changes
pub mod Comparisons
pub mod Parts
pub mod Readings
pub mod Debts
