pub mod Discounts
pub mod Kept
pub mod KeptRates
