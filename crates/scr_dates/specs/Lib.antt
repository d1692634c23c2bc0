pub mod Civil
pub mod Text
pub mod Years
pub mod Payments
pub mod Kept
